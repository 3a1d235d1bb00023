use Rattle.std.proofs.Common.{◌≡◌, ◌++◌, map}
use Rattle.definitions.specs.Values.{Text}
use Rattle.definitions.specs.Applied.{Application}
use Rattle.json_doc.specs.Docs.{value, members_value}
use Rattle.json_doc.specs.Members.{HasNamesInOrder}
use Rattle.json_doc.specs.NamedMembers.{named_left}
use Rattle.keyword_plans.specs.Applications.{planned_unnamed}
use Rattle.applicators.specs.Plans.{planned_view}
use Rattle.keyword_plans.proofs.planning.others.plan_unnamed.Given as goal

-- what is planned, and what the members that are left add
abbrev pub invariant-loop-name : goal.invariant-loop-name
invariant-loop-name l =
    record {
      schemas : HasNamesInOrder (named_left l.other_schemas);
      members : HasNamesInOrder (named_left l.name-iterator);
      planned : (a : Application) (k : Text)
          → map (planned_view k a) l.planned.items ++ planned_unnamed k a (value l.schema) (named_left l.other_schemas) (named_left l.name-iterator)
          ≡ planned_unnamed k a (value l.schema) (members_value l.schemas) (members_value l.members);
    }
