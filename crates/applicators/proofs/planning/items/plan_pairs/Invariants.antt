use Rattle.std.proofs.Common.{◌≡◌, ◌≤◌, ◌++◌, map, drop, length}
use Rattle.definitions.specs.Values.{Text}
use Rattle.definitions.specs.Applied.{Application}
use Rattle.applicators.specs.Applications.{planned_pairs}
use Rattle.json_doc.specs.Docs.{value}
use Rattle.applicators.specs.Plans.{planned_view}
use Rattle.applicators.proofs.planning.items.plan_pairs.Given as goal

-- what is planned, and what the schemas and elements that are left add
abbrev pub invariant-loop-index : goal.invariant-loop-index
invariant-loop-index l =
    record {
      within : l.index ≤ length l.items;
      planned : (a : Application) (k : Text)
          → map (planned_view k a) l.planned.items ++ planned_pairs k a l.index (map value (drop l.index l.schemas)) (map value (drop l.index l.items))
          ≡ planned_pairs k a 0 (map value l.schemas) (map value l.items);
    }
