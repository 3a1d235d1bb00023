-- The numbers of texts.
use Rattle.std.specs.Prelude.{ℕ, ◌≡◌, List, Bool, true, Some, slice_get}
use Rattle.definitions.specs.Values.{Text}
use Rattle.text_numbers.specs.Trees.{leaf_of}
use Rattle.text_numbers.specs.declared.numbering.TextNumbers.{TextNumbers}

-- the number that is told of a text
unfoldable pub text_number : TextNumbers → Text → ℕ
text_number numbers text = (leaf_of numbers.tree text).number

-- whether one text alone has this number's leaf
unfoldable pub is_only : TextNumbers → Text → Bool
is_only numbers text = (leaf_of numbers.tree text).only

-- these are the numbers of the texts: where a text is one of them, its number is the place of one that is the same, and where
-- it is the only one, of that one
pub record AreNumbers (n : TextNumbers) (texts : List Text) : Type 0 where
  pub found : (text : Text) (i : ℕ) → slice_get texts i ≡ Some text → slice_get texts (text_number n text) ≡ Some text
  pub only : (text : Text) (i : ℕ) → slice_get texts i ≡ Some text → is_only n text ≡ true → i ≡ text_number n text
