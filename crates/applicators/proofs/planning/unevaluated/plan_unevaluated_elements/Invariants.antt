use Rattle.std.proofs.Common.{◌≡◌, ◌++◌, map, drop}
use Rattle.definitions.specs.Values.{Text}
use Rattle.definitions.specs.Applied.{Application}
use Rattle.json_doc.specs.Docs.{value}
use Rattle.applicators.specs.Applications.{planned_unevaluated_items}
use Rattle.applicators.specs.Plans.{planned_view}
use Rattle.applicators.proofs.planning.unevaluated.plan_unevaluated_elements.Given as goal

-- what is planned, and what the elements that are left add
abbrev pub invariant-loop-index : goal.invariant-loop-index
invariant-loop-index l =
    (a : Application) (k : Text)
    → map (planned_view k a) l.planned.items ++ planned_unevaluated_items k a (value l.schema) l.indexes l.index (map value (drop l.index l.items))
    ≡ planned_unevaluated_items k a (value l.schema) l.indexes 0 (map value l.items)
