use Rattle.std.proofs.Common.{◌≡◌, ◌++◌, map}
use Rattle.definitions.specs.Values.{Text}
use Rattle.definitions.specs.Applied.{Application}
use Rattle.json_doc.specs.Docs.{value, members_value}
use Rattle.json_doc.specs.NamedMembers.{named_left}
use Rattle.applicators.specs.Applications.{planned_names}
use Rattle.applicators.specs.Plans.{planned_view}
use Rattle.applicators.proofs.planning.members.plan_each_name.Given as goal

-- what is planned, and what the names that are left add
abbrev pub invariant-loop-name : goal.invariant-loop-name
invariant-loop-name l =
    (a : Application) (k : Text) → map (planned_view k a) l.planned.items ++ planned_names k a (value l.schema) (named_left l.name-iterator)
    ≡ planned_names k a (value l.schema) (members_value l.members)
