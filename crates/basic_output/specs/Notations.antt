-- Pointers as they stand in the output.
use Rattle.std.specs.Prelude.{◌≡◌, ℕ, Bool, [], ◌∷◌, ◌++◌, true, not, ◌&&◌, ◌==◌}
use Rattle.std.specs.List.{list_all}
use Rattle.json.specs.Print.{escape}
use Rattle.definitions.specs.Bytes.{slash, tilde}
use Rattle.definitions.specs.Pointers.{Pointer, fragment_text, pointer_text}
use Rattle.definitions.specs.Values.{Text}
use Rattle.basic_output.specs.Pieces.{is_plain}
use Rattle.basic_output.specs.declared.unit_text.step_texts.Notation.{Notation}
use Rattle.basic_output.specs.declared.unit_text.step_texts.Notation.TheVariants as notation

abbrev pub notation_text : Notation → Pointer → Text
notation_text notation.Pointer p = pointer_text p
notation_text notation.Fragment p = fragment_text p

-- a byte that stands in a pointer as it is
abbrev pub stands_in_pointer : ℕ → Bool
stands_in_pointer c = not (c == tilde) && not (c == slash)

-- the text of a pointer in this notation, as it stands in a string of JSON
abbrev pub escaped_text : Notation → Pointer → Text
escaped_text n p = escape (notation_text n p)

-- the token's text is appended, and where the token is told to be plain, it is
pub record IsPushed (n : Notation) (token : Text) (plain : Bool) (old new : Text) : Type 0 where
  pub text : new ≡ old ++ escaped_text n (token ∷ [])
  pub is_plain : plain ≡ true → list_all is_plain token ≡ true
