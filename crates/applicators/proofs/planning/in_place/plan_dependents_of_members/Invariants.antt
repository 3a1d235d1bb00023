use Rattle.std.proofs.Common.{◌≡◌, ◌++◌, map}
use Rattle.definitions.specs.Values.{Text}
use Rattle.definitions.specs.Applied.{Application}
use Rattle.json_doc.specs.Docs.{members_value}
use Rattle.json_doc.specs.NamedMembers.{named_left}
use Rattle.applicators.specs.Applications.{planned_under_names}
use Rattle.applicators.specs.Plans.{planned_view}
use Rattle.applicators.specs.Subjects.{subject_value}
use Rattle.applicators.proofs.planning.in_place.plan_dependents_of_members.Given as goal

-- what is planned, and what the members that are left add
abbrev pub invariant-loop-name : goal.invariant-loop-name
invariant-loop-name l =
    (a : Application) (k : Text) → a.instance ≡ subject_value l.subject
    → map (planned_view k a) l.planned.items ++ planned_under_names k a (members_value l.schemas) (named_left l.name-iterator)
    ≡ planned_under_names k a (members_value l.schemas) (members_value l.members)
