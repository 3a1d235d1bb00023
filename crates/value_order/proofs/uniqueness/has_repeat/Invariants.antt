use Rattle.std.proofs.Common.{◌≡◌, drop}
use Rattle.value_order.proofs.Repeats.{repeats}
use Rattle.value_order.proofs.uniqueness.has_repeat.Given as goal

-- what is left decides
abbrev pub invariant-loop-index : goal.invariant-loop-index
invariant-loop-index l = repeats l.items ≡ repeats (drop l.index l.items)
