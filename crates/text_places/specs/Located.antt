-- What stands in a JSON text where.
use Rattle.std.specs.Prelude.{ℕ, ◌≡◌, ◌≤◌, Option, IsSome, length, option_and_then, slice_range}
use Rattle.std.specs.Result.{result_ok}
use Rattle.definitions.specs.Pointers.{find, pointer_of}
use Rattle.definitions.specs.Texts.{parsed_value}
use Rattle.definitions.specs.Values.{Text, Value}
use Rattle.text_places.specs.Positions.{position_at}
use Rattle.text_places.specs.declared.places.Span.{Span}
use Rattle.text_places.specs.declared.position.Position.{Position}

-- the value that a text spells
abbrev pub spelled_value : Text → Option Value
spelled_value text = result_ok (parsed_value text)

-- the value that a location leads to in the value that a text spells
abbrev pub located_value : Text → Text → Option Value
located_value text location = option_and_then (λ v. option_and_then (λ p. find p v) (pointer_of location)) (spelled_value text)

-- there is a value, and the bytes of this part of the text spell it
pub record Spells (text : Text) (found : Option Value) (span : Span) : Type 0 where
  pub ordered : span.start ≤ span.end
  pub within : span.end ≤ length text
  pub there : IsSome found
  pub spelled : spelled_value (slice_range text span.start span.end) ≡ found

-- the position of some offset
abbrev pub IsPositionIn : Text → Position → Type 0
IsPositionIn text p = (offset : ℕ) × (offset ≤ length text) × (p ≡ position_at text offset)

-- the position where the value at the location begins
abbrev pub IsPositionOf : Text → Text → Position → Type 0
IsPositionOf text location p = (span : Span) × Spells text (located_value text location) span × (p ≡ position_at text span.start)
