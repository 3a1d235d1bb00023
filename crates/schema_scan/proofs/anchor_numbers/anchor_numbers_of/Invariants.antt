use Rattle.std.proofs.Common.{◌≡◌, ◌≤◌, drop, length, map}
use Rattle.std.specs.List.{position_from}
use Rattle.definitions.specs.Values.{Text}
use Rattle.schema_table.specs.PairNumbers.{pair_number}
use Rattle.schema_table.specs.Gathering.{anchor_mark}
use Rattle.schema_table.specs.Lookups.{has_mark}
use Rattle.schema_scan.proofs.anchor_numbers.anchor_numbers_of.Given as goal

abbrev pub invariant-loop-number : goal.invariant-loop-number
invariant-loop-number l =
    record {
      within : l.number ≤ length l.anchors;
      first : (u n : Text) → pair_number l.numbers u n ≡ position_from (has_mark u n) l.number (drop l.number (map anchor_mark l.anchors));
    }

abbrev pub decreases-loop-number : goal.decreases-loop-number
decreases-loop-number l = l.number
