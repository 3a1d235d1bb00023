use Rattle.std.proofs.Common.{◌≡◌, ◌<◌, ◌≤◌, true, false, map, take}
use Rattle.std.specs.List.{list_any}
use Rattle.text_numbers.specs.Places.{is_above, is_rest}
use Rattle.text_numbers.proofs.differences.least_above.Given as goal

abbrev pub invariant-loop-number : goal.invariant-loop-number
invariant-loop-number l =
    record {
      above : l.value ≤ l.least;
      rest : l.value < l.least → list_any (is_rest (map (λ t. t.now) l.texts) l.position l.least) (take l.number-index l.numbers) ≡ true;
      none : l.least ≡ l.value → list_any (is_above (map (λ t. t.now) l.texts) l.position l.value) (take l.number-index l.numbers) ≡ false;
    }
