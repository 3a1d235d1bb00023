use Rattle.std.proofs.Common.{◌≡◌, ◌++◌, map}
use Rattle.definitions.specs.Values.{Text}
use Rattle.definitions.specs.Applied.{Application}
use Rattle.json_doc.specs.Docs.{value, members_value}
use Rattle.json_doc.specs.NamedMembers.{name_text, named_left}
use Rattle.applicators.specs.Applications.{planned_unevaluated_properties}
use Rattle.applicators.specs.Plans.{planned_view}
use Rattle.applicators.proofs.planning.unevaluated.plan_unevaluated_members.Given as goal

-- the names stay those that are given; what is planned, and what the members that are left add
abbrev pub invariant-loop-name : goal.invariant-loop-name
invariant-loop-name l = record {
  names : l.evaluated.names.now ≡ l.names;
  planned : (a : Application) (k : Text)
      → map (planned_view k a) l.planned.items ++ planned_unevaluated_properties k a (value l.schema) (map name_text l.names) (named_left l.name-iterator)
      ≡ planned_unevaluated_properties k a (value l.schema) (map name_text l.names) (members_value l.members);
}
