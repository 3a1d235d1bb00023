-- What texts have at a position, and where they differ.
use Rattle.std.specs.Prelude.{ℕ, ◌≡◌, ◌+◌, ◌<◌, ◌==◌, List, Bool, true, not, if◌then◌else◌, Some, length, nat_lt, slice_get}
use Rattle.std.specs.List.{list_any}
use Rattle.std.specs.Option.{option_map_or}
use Rattle.definitions.specs.Values.{Text}

-- what a text has at a position: 0 behind its end, and one more than the byte within it
abbrev pub place_value : Text → ℕ → ℕ
place_value text position = option_map_or (λ byte. byte + 1) (slice_get text position) 0

-- what the text of a number has there
abbrev pub value_of : List Text → ℕ → ℕ → ℕ
value_of texts position number = option_map_or (λ text. place_value text position) (slice_get texts number) 0

abbrev pub has_value : List Text → ℕ → ℕ → ℕ → Bool
has_value texts position value number = value_of texts position number == value

abbrev pub is_below : List Text → ℕ → ℕ → ℕ → Bool
is_below texts position bound number = nat_lt (value_of texts position number) bound

abbrev pub is_rest : List Text → ℕ → ℕ → ℕ → Bool
is_rest texts position bound number = not (is_below texts position bound number)

-- the text is below the bound there, or the text isn't
abbrev pub is_toward : ℕ → ℕ → Bool → Text → Bool
is_toward position bound below text =
    if below then nat_lt (place_value text position) bound else not (nat_lt (place_value text position) bound)

-- the text of this number stands on that side of the bound at the position: below it, or not below it
abbrev pub is_side : List Text → ℕ → ℕ → Bool → ℕ → Bool
is_side texts position bound below number =
    if below then is_below texts position bound number else is_rest texts position bound number

abbrev pub is_above : List Text → ℕ → ℕ → ℕ → Bool
is_above texts position value number = nat_lt value (value_of texts position number)

-- the texts of these numbers have the same at the position
pub record AgreeAt (texts : List Text) (numbers : List ℕ) (position : ℕ) : Type 0 where
  pub agree : (a b i j : ℕ) → slice_get numbers a ≡ Some i → slice_get numbers b ≡ Some j
      → value_of texts position i ≡ value_of texts position j

-- these are numbers of texts that have the same at all positions before this one
pub record AreAlike (texts : List Text) (numbers : List ℕ) (from : ℕ) : Type 0 where
  pub within : (a i : ℕ) → slice_get numbers a ≡ Some i → i < length texts
  pub alike : (position : ℕ) → position < from → AgreeAt texts numbers position

-- these are numbers of one text
pub record AreSame (texts : List Text) (numbers : List ℕ) : Type 0 where
  pub same : (a b i j : ℕ) → slice_get numbers a ≡ Some i → slice_get numbers b ≡ Some j
      → slice_get texts i ≡ slice_get texts j

-- some of the texts have less than the bound at the position, and some haven't; before it all agree
pub record Divides (texts : List Text) (numbers : List ℕ) (position bound : ℕ) : Type 0 where
  pub below : list_any (is_below texts position bound) numbers ≡ true
  pub rest : list_any (is_rest texts position bound) numbers ≡ true
  pub alike : AreAlike texts numbers position
