use Rattle.std.proofs.Common.{◌≡◌, ◌++◌, map}
use Rattle.definitions.specs.Values.{Text, members}
use Rattle.definitions.specs.Applied.{Application}
use Rattle.json_doc.specs.Docs.{members_value}
use Rattle.json_doc.specs.NamedMembers.{named_left}
use Rattle.applicators.specs.Applications.{planned_members}
use Rattle.applicators.specs.Plans.{planned_view}
use Rattle.applicators.proofs.planning.members.plan_along_schemas.Given as goal

-- what is planned, and what the schemas that are left add
abbrev pub invariant-loop-name : goal.invariant-loop-name
invariant-loop-name l =
    (a : Application) (k : Text) → members a.instance ≡ members_value l.present
    → map (planned_view k a) l.planned.items ++ planned_members k a (named_left l.name-iterator) ≡ planned_members k a (members_value l.schemas)
