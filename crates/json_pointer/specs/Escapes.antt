-- The bytes of a reference token that cannot stand in a pointer's text as they are (RFC 6901, section 3).
use Rattle.std.specs.Prelude.{ℕ, Bool, ◌==◌, ◌||◌, [], ◌∷◌, Option, Some, None, if◌then◌else◌}
use Rattle.definitions.specs.Bytes.{tilde, slash, digit_zero, digit_one}
use Rattle.definitions.specs.Values.{Text}

abbrev pub is_escaped : ℕ → Bool
is_escaped byte = byte == tilde || byte == slash

-- what an escape stands for, by what stands after its `~`
abbrev pub escape_before : Text → Option ℕ
escape_before [] = None
escape_before (c ∷ cs) = if c == digit_zero then Some tilde else if c == digit_one then Some slash else None
