-- The next line of a text that is read.
use Rattle.std.specs.Prelude.{◌≡◌, ◌≢◌, [], Bool, true, false, Option, Some, IfSome}
use Rattle.std.specs.Io.BufRead.{drop_through, first_piece}
use Rattle.definitions.specs.Values.{Text}

-- the first line of what was left, without its line feed, and what is left behind it; or nothing was left
abbrev pub IsFirstOf : Text → Bool → Text → Option Text → Type 0
IsFirstOf left true line rest = (left ≢ []) × (line ≡ first_piece 10 left) × (rest ≡ Some (drop_through 10 left))
IsFirstOf left false line rest = left ≡ []

abbrev pub IsNext : Option Text → Bool → Text → Option Text → Type 0
IsNext left is_there line rest = IfSome left (λ l. IsFirstOf l is_there line rest)
