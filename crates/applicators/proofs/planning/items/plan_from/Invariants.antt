use Rattle.std.proofs.Common.{◌≡◌, ◌++◌, map, drop}
use Rattle.definitions.specs.Values.{Text}
use Rattle.definitions.specs.Applied.{Application, at_items}
use Rattle.json_doc.specs.Docs.{value}
use Rattle.applicators.specs.Plans.{planned_view}
use Rattle.applicators.proofs.planning.items.plan_from.Given as goal

-- what is planned, and what the elements that are left add
abbrev pub invariant-loop-index : goal.invariant-loop-index
invariant-loop-index l =
    (a : Application) (k : Text)
    → map (planned_view k a) l.planned.items ++ at_items a k (value l.schema) l.index (map value (drop l.index l.items))
    ≡ at_items a k (value l.schema) l.start (map value (drop l.start l.items))
