-- A text that tells each of some units.
use Rattle.std.specs.Prelude.{◌≡◌, List, [], ◌∷◌, ◌++◌, length}
use Rattle.std.specs.List.{All, concat}
use Rattle.definitions.specs.Values.{Text}
use Rattle.plain_reports.specs.ErrorUnits.{Unit}

-- the text ends with a line feed
abbrev pub EndsLine : Text → Type 0
EndsLine text = (front : Text) × (text ≡ front ++ 10 ∷ [])

-- the text has one part for each unit, in their order, and each part ends a line
abbrev pub TellsEach : List Unit → Text → Type 0
TellsEach units text = (parts : List Text) × (length parts ≡ length units) × All EndsLine parts × (text ≡ concat parts)
