-- The bytes of a text that was read.
use Rattle.std.proofs.Common.{◌≡◌, Option, Some, None, Result, Ok, Err, true, false, cond, Bool, IsUtf8, option_and_then, refl, ap}
use Rattle.std.proofs.lemmas.Str.{is_utf8-from_IsUtf8, IsUtf8-from_is_utf8}
use Rattle.std.specs.Str.{is_utf8}
use Rattle.serde_json.specs.Data.{Data}
use Rattle.serde_json.specs.Read.{read}
use Rattle.definitions.specs.Faults.{Fault, bad_json}
use Rattle.definitions.specs.Values.{Text, Value}
use Rattle.definitions.specs.Texts.{parsed_value, value_of, value_or_bad_number, value_or_bad_json}

pub reading_of_text : (bytes : Text) → IsUtf8 bytes → parsed_value bytes ≡ value_or_bad_json (read bytes)
reading_of_text bytes u = rw (is_utf8-from_IsUtf8 bytes u) refl

pub value_read : (o : Option Data) (v : Value) → option_and_then value_of o ≡ Some v → value_or_bad_json o ≡ Ok v
value_read None v e = cc
value_read (Some d) v e = ap value_or_bad_number e

no_text : (b : Bool) (r : Result Value Fault) → (b ≡ true → ⊥) → cond b r (Err bad_json) ≡ Err bad_json
no_text true r h = absurd (h refl)
no_text false r h = refl

pub reading_of_no_text : (bytes : Text) → (IsUtf8 bytes → ⊥) → parsed_value bytes ≡ Err bad_json
reading_of_no_text bytes h = no_text (is_utf8 bytes) (value_or_bad_json (read bytes)) (λ e. h (IsUtf8-from_is_utf8 bytes e))
