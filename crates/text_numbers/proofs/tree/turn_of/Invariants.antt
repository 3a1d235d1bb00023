use Rattle.std.proofs.Common.{◌≡◌, drop}
use Rattle.std.specs.List.{position_from}
use Rattle.text_numbers.specs.Turns.{goes_aside}
use Rattle.text_numbers.proofs.tree.turn_of.Given as goal

abbrev pub invariant-loop-index : goal.invariant-loop-index
invariant-loop-index l =
    position_from (λ turn. goes_aside turn l.text) 0 l.turns ≡ position_from (λ turn. goes_aside turn l.text) l.index (drop l.index l.turns)
