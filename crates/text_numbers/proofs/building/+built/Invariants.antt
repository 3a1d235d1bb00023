use Rattle.std.proofs.Common.{◌≤◌, length, map}
use Rattle.text_numbers.specs.Places.{AreAlike}
use Rattle.text_numbers.proofs.Telling.{TurnsTell}
use Rattle.text_numbers.proofs.building.+built.Given as goal

abbrev pub decreases-built : goal.decreases-built
decreases-built l = length l.numbers.items

abbrev pub invariant-loop-at : goal.invariant-loop-at
invariant-loop-at l =
    record {
      alike : AreAlike (map (λ t. t.now) l.texts) l.left.items l.agreed;
      tell : TurnsTell l.turns.items l.asides.items (map (λ t. t.now) l.texts) l.left.items l.fn.numbers.items;
      fewer : length l.left.items ≤ length l.fn.numbers.items;
    }

abbrev pub decreases-loop-at : goal.decreases-loop-at
decreases-loop-at l = length l.left.items
