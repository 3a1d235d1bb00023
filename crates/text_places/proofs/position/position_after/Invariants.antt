use Rattle.std.proofs.Common.{◌≡◌, ◌+◌, ◌≤◌, take}
use Rattle.std.specs.List.{fold}
use Rattle.text_places.specs.Positions.{next_position}
use Rattle.text_places.proofs.position.position_after.Given as goal

abbrev pub invariant-loop-byte : goal.invariant-loop-byte
invariant-loop-byte l =
    (l.position ≡ fold next_position l.fn.start (take l.byte-index l.bytes))
    × (l.position.line ≤ l.fn.start.line + l.byte-index)
    × (l.position.column ≤ l.fn.start.column + l.byte-index)
