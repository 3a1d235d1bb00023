use Rattle.std.proofs.Common.{◌≡◌, map, take}
use Rattle.json_doc.specs.Docs.{value}
use Rattle.value_order.specs.Sorts.{values_behind}
use Rattle.value_order.proofs.uniqueness.references.Given as goal

abbrev pub invariant-loop-item : goal.invariant-loop-item
invariant-loop-item l = values_behind l.docs.items ≡ map value (take l.item-index l.items)
