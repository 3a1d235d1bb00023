use Rattle.std.proofs.Common.{◌≡◌, ◌++◌, map}
use Rattle.definitions.specs.Values.{Text}
use Rattle.definitions.specs.Applied.{Application}
use Rattle.applicators.specs.Applications.{planned_dependents}
use Rattle.json_doc.specs.Docs.{members_value}
use Rattle.json_doc.specs.NamedMembers.{named_left}
use Rattle.applicators.specs.Subjects.{subject_value}
use Rattle.applicators.specs.Plans.{planned_view}
use Rattle.applicators.proofs.planning.in_place.plan_dependents_along_schemas.Given as goal

-- what is planned, and what the schemas that are left add
abbrev pub invariant-loop-name : goal.invariant-loop-name
invariant-loop-name l =
    (a : Application) (k : Text) → a.instance ≡ subject_value l.subject
    → map (planned_view k a) l.planned.items ++ planned_dependents k a (named_left l.name-iterator) ≡ planned_dependents k a (members_value l.schemas)
