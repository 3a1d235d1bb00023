use Rattle.std.proofs.Common.{◌≡◌, filter, map, take}
use Rattle.text_numbers.specs.Places.{is_below, is_rest}
use Rattle.text_numbers.proofs.building.both_sides.Given as goal

abbrev pub invariant-loop-number : goal.invariant-loop-number
invariant-loop-number l =
    record {
      below : l.below.items ≡ filter (is_below (map (λ t. t.now) l.texts) l.at.position l.at.bound) (take l.number-index l.number-items);
      rest : l.rest.items ≡ filter (is_rest (map (λ t. t.now) l.texts) l.at.position l.at.bound) (take l.number-index l.number-items);
    }
