-- Lines and columns of a text, both from 1, with columns in characters.
use Rattle.std.specs.Prelude.{ℕ, ◌+◌, ◌==◌, ◌&&◌, not, nat_lt, Bool, if◌then◌else◌, take}
use Rattle.std.specs.List.{fold}
use Rattle.definitions.specs.Values.{Text}
use Rattle.text_places.specs.declared.position.Position.{Position}

abbrev pub is_line_feed : ℕ → Bool
is_line_feed c = c == 10

-- a byte of UTF-8 that goes on with a character
abbrev pub is_continuation : ℕ → Bool
is_continuation c = not (nat_lt c 128) && nat_lt c 192

abbrev pub first_position : Position
first_position = record { line = 1; column = 1 }

-- the position behind a byte
abbrev pub next_position : Position → ℕ → Position
next_position p c =
    if is_line_feed c then record { line = p.line + 1; column = 1 } else if is_continuation c then p else record { line = p.line; column = p.column + 1 }

abbrev pub position_at : Text → ℕ → Position
position_at text offset = fold next_position first_position (take offset text)
