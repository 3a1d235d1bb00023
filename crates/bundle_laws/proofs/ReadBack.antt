-- The text of a well-formed value is read as the value.
use Rattle.std.proofs.Common.{◌≡◌, ◌≤◌, ◌^◌, ◌&&◌, ℤ, pos, negsuc, [], ◌∷◌, Bool, true, false, Ok, refl, sym, ap, ◌∙◌, arith}
use Rattle.std.proofs.lemmas.Bool.{and_parts, ltb-true}
use Rattle.std.proofs.lemmas.Fmt.{IsAscii-decimal, IsAscii-signed}
use Rattle.std.proofs.lemmas.Str.{IsUtf8-nil, IsUtf8-append, IsUtf8-from_ascii, IsUtf8-from_is_utf8, is_utf8-from_IsUtf8}
use Rattle.std.specs.Str.{IsUtf8, is_utf8}
use Rattle.json.specs.Lex.{tokens}
use Rattle.json.specs.Print.{IsNumber}
use Rattle.json.specs.Tree.{HasNumbers, ItemsHaveNumbers, MembersHaveNumbers}
use Rattle.json.proofs.Printed.Decimals.{IsNumber-decimal, IsNumber-signed_decimal}
use Rattle.json.proofs.Printed.Tokens.{tokens-print}
use Rattle.json.proofs.Printed.Trees.{ArePrintable-json_tokens}
use Rattle.json.proofs.Printed.Utf8.{IsUtf8-quoted, IsUtf8-boolean, IsUtf8-are_ascii}
use Rattle.serde_json.specs.Find.{of_integer}
use Rattle.serde_json.specs.Written.{number_text, outline, items_outline, members_outline, comma_if, items_text, members_text}
use Rattle.serde_json.proofs.Texts.{print-outline}
use Rattle.definitions.specs.Values.{Value, null, boolean, integer, string, array, object, Elements, no_elements, element, Members, no_members, member, nesting, fits_64_bits, is_before, is_well_formed, are_well_formed, are_well_formed_members}
use Rattle.definitions.specs.Texts.{data_of, items_of, json_members_of, text, parsed_value}
use Rattle.json_doc.specs.Tokens.{value_tokens}
use Rattle.json_doc.proofs.Texts.{read_back, value_back}
use Rattle.bundle_laws.proofs.Utf8Parts.{one_plain}

-- ---- in UTF-8
number_utf8 : (z : ℤ) → fits_64_bits z ≡ true → IsUtf8 (number_text (of_integer z))
number_utf8 (pos n) h = IsUtf8-from_ascii _ (IsAscii-decimal n (ltb-true n (2 ^ 64) h))
number_utf8 (negsuc n) h = IsUtf8-from_ascii _ (IsAscii-signed (negsuc n) (ltb-true n (2 ^ 63) h))

comma_utf8 : (b : Bool) → IsUtf8 (comma_if b)
comma_utf8 true = one_plain 44 (omega arith)
comma_utf8 false = IsUtf8-nil

mutual
  value_utf8 : (v : Value) → is_well_formed v ≡ true → IsUtf8 (text v)
  value_utf8 null h = IsUtf8-are_ascii _ refl
  value_utf8 (boolean b) h = IsUtf8-boolean b
  value_utf8 (integer z) h = number_utf8 z h
  value_utf8 (string s) h = IsUtf8-quoted s (IsUtf8-from_is_utf8 s h)
  value_utf8 (array vs) h = IsUtf8-append (91 ∷ []) _ (one_plain 91 (omega arith)) (elements_utf8 false vs h)
  value_utf8 (object ms) h = IsUtf8-append (123 ∷ []) _ (one_plain 123 (omega arith)) (members_utf8 false ms h)

  elements_utf8 : (later : Bool) (vs : Elements) → are_well_formed vs ≡ true → IsUtf8 (items_text later (items_of vs))
  elements_utf8 later no_elements h = one_plain 93 (omega arith)
  elements_utf8 later (element v vs) h =
      let p = and_parts (is_well_formed v) (are_well_formed vs) h in
      IsUtf8-append (comma_if later) _ (comma_utf8 later) (IsUtf8-append (text v) _ (value_utf8 v p.0) (elements_utf8 true vs p.1))

  members_utf8 : (later : Bool) (ms : Members) → are_well_formed_members ms ≡ true → IsUtf8 (members_text later (json_members_of ms))
  members_utf8 later no_members h = one_plain 125 (omega arith)
  members_utf8 later (member n v ms) h =
      let p = and_parts (is_utf8 n) (is_before n ms && (is_well_formed v && are_well_formed_members ms)) h in
      let q = and_parts (is_before n ms) (is_well_formed v && are_well_formed_members ms) p.1 in
      let r = and_parts (is_well_formed v) (are_well_formed_members ms) q.1 in
      IsUtf8-append (comma_if later) _ (comma_utf8 later)
      (IsUtf8-append _ _ (IsUtf8-quoted n (IsUtf8-from_is_utf8 n p.0))
      (IsUtf8-append (58 ∷ []) _ (one_plain 58 (omega arith)) (IsUtf8-append (text v) _ (value_utf8 v r.0) (members_utf8 true ms r.1))))

-- ---- its numbers are those of JSON
number_printed : (z : ℤ) → fits_64_bits z ≡ true → IsNumber (number_text (of_integer z))
number_printed (pos n) h = IsNumber-decimal n (ltb-true n (2 ^ 64) h)
number_printed (negsuc n) h = IsNumber-signed_decimal (negsuc n) (ltb-true n (2 ^ 63) h)

mutual
  value_numbers : (v : Value) → is_well_formed v ≡ true → HasNumbers (outline (data_of v))
  value_numbers null h = tt
  value_numbers (boolean b) h = tt
  value_numbers (integer z) h = number_printed z h
  value_numbers (string s) h = tt
  value_numbers (array vs) h = elements_numbers vs h
  value_numbers (object ms) h = members_numbers ms h

  elements_numbers : (vs : Elements) → are_well_formed vs ≡ true → ItemsHaveNumbers (items_outline (items_of vs))
  elements_numbers no_elements h = tt
  elements_numbers (element v vs) h = let p = and_parts (is_well_formed v) (are_well_formed vs) h in (value_numbers v p.0, elements_numbers vs p.1)

  members_numbers : (ms : Members) → are_well_formed_members ms ≡ true → MembersHaveNumbers (members_outline (json_members_of ms))
  members_numbers no_members h = tt
  members_numbers (member n v ms) h =
      let p = and_parts (is_utf8 n) (is_before n ms && (is_well_formed v && are_well_formed_members ms)) h in
      let q = and_parts (is_before n ms) (is_well_formed v && are_well_formed_members ms) p.1 in
      let r = and_parts (is_well_formed v) (are_well_formed_members ms) q.1 in
      (value_numbers v r.0, members_numbers ms r.1)

pub text_read_back : (v : Value) → is_well_formed v ≡ true → nesting v ≤ 127 → parsed_value (text v) ≡ Ok v
text_read_back v h shallow =
    let same : tokens (text v) ≡ value_tokens v =
    ap tokens (sym (print-outline (data_of v))) ∙ tokens-print (value_tokens v) (ArePrintable-json_tokens (outline (data_of v)) (value_numbers v h)) in
    rw (is_utf8-from_IsUtf8 (text v) (value_utf8 v h), read_back v (text v) h shallow same, value_back v) refl
