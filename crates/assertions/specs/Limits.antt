-- The limit that a keyword's value gives.
use Rattle.std.specs.Prelude.{ℕ, pos, Option, Some, None}
use Rattle.definitions.specs.Values.{Value, integer}

-- the number, where it is one of at least 0
abbrev pub size_of : Value → Option ℕ
size_of (integer (pos n)) = Some n
size_of _ = None
