-- The number that digits write, as `serde_json` reads it.
use Rattle.std.proofs.Common.{◌≡◌, ℕ, zero, suc, ◌-◌, ◌^◌, ◌<◌, ◌≤◌, ◌+◌, negsuc, pos, [], ◌∷◌, ◌++◌, length, take, get_or, true, false, Some, option_and_then, refl, sym, ap, ◌∙◌, subst, arith, append-nil, take_all, length-take-le, lt-ltb, le-leb}
use Rattle.std.proofs.lemmas.List.{take_more}
use Rattle.std.proofs.lemmas.Str.{digit_value_digit}
use Rattle.std.proofs.lemmas.Str.Parse.{digits_value_short, numerals_by_value, tells_digits}
use Rattle.std.specs.Char.{digit_value}
use Rattle.std.specs.Str.Parse.{AllDigits, digits_value}
use Rattle.fast_float.specs.Text.{Parts, IsWellFormed, scan, digits_of}
use Rattle.fast_float.proofs.Writing.{scan-text_of}
use Rattle.serde_json.specs.Find.{as_integer}
use Rattle.serde_json.specs.Read.{number_from, is_integer}
use Rattle.definitions.specs.Values.{Text}
use Rattle.json_doc.specs.Reads.{IsNumeralOf}

abbrev parts : Text → Parts
parts ds = record { whole = ds; point = false; fraction = []; exponent_negative = false; exponent = []; len = length (ds ++ []) }

scanned : (ds : Text) → AllDigits 10 ds → scan ds ≡ parts ds
scanned ds h =
    let formed : IsWellFormed (parts ds) = record { whole_digits = h; fraction_digits = tt; exponent_digits = tt; no_point = λ _. refl; no_exponent = λ _. refl; len_is = refl } in
    ap scan (sym (append-nil ds)) ∙ scan-text_of (parts ds) formed

integer_parts : (ds : Text) → 0 < length ds → is_integer (parts ds) ≡ true
integer_parts ds some = rw (lt-ltb _ _ some)

value_of_parts : (ds : Text) → digits_of (parts ds) ≡ digits_value 10 ds
value_of_parts ds = ap (digits_value 10) (append-nil ds)

pub positive : (ds : Text) (n : ℕ) → IsNumeralOf ds n → option_and_then as_integer (number_from false (scan ds)) ≡ Some (pos n)
positive ds n h =
    let fits : n < 2 ^ 64 = omega (arith, h.small) in
    ap (λ p. option_and_then as_integer (number_from false p)) (scanned ds h.digits) ∙ rw (integer_parts ds h.some, value_of_parts ds, h.value) (rw (lt-ltb _ _ fits))

pub below : (ds : Text) (n : ℕ) → IsNumeralOf ds n → 0 < n → option_and_then as_integer (number_from true (scan ds)) ≡ Some (negsuc (n - 1))
below ds zero h some = absurd (omega arith)
below ds (suc n) h some =
    let fits : suc n ≤ 2 ^ 63 = omega (arith, h.small) in
    let less : suc n - 1 ≡ n = omega arith in
    ap (λ p. option_and_then as_integer (number_from true p)) (scanned ds h.digits)
    ∙ rw (integer_parts ds h.some, value_of_parts ds, h.value, less) (rw (lt-ltb _ _ some, le-leb _ _ fits))

-- ---- digit by digit
AllDigits-snoc : (ds : Text) (c : ℕ) → AllDigits 10 ds → digit_value c < 10 → AllDigits 10 (ds ++ c ∷ [])
AllDigits-snoc [] c h small = (small, tt)
AllDigits-snoc (d ∷ ds) c h small = (h.0, AllDigits-snoc ds c h.1 small)

pub digit_is : (c : ℕ) → 48 ≤ c → c ≤ 57 → digit_value c ≡ c - 48
digit_is c low high = let h = digit_value_digit c (low, high) in omega (arith, h)

pub one_more_digit : (ds : Text) (i : ℕ) → i < length ds → AllDigits 10 (take i ds) → 48 ≤ get_or ds i 0 → get_or ds i 0 ≤ 57 → AllDigits 10 (take (i + 1) ds)
one_more_digit ds i lt h low high =
    let small : digit_value (get_or ds i 0) < 10 = omega (arith, digit_is (get_or ds i 0) low high) in
    rw (take_more ds i 0 lt) (AllDigits-snoc (take i ds) (get_or ds i 0) h small)

pub small_before : (ds : Text) (i : ℕ) → i < length ds → length ds ≤ 18 → AllDigits 10 (take i ds) → digits_value 10 (take i ds) < 10 ^ 17
small_before ds i lt short h = digits_value_short (numerals_by_value (AllDigits 10) tells_digits) (take i ds) 17 h (omega (arith, length-take-le i ds (omega arith)))

pub whole_numeral : (ds : Text) (n : ℕ) → 0 < length ds → length ds ≤ 18 → AllDigits 10 (take (length ds) ds) → digits_value 10 (take (length ds) ds) ≡ n → IsNumeralOf ds n
whole_numeral ds n some short h is =
    let all : take (length ds) ds ≡ ds = take_all (length ds) ds (omega arith) in
    let digits : AllDigits 10 ds = subst (AllDigits 10) all h in
    let value : digits_value 10 ds ≡ n = sym (ap (digits_value 10) all) ∙ is in
    record {
      some = some;
      digits = digits;
      value = value;
      small = subst (λ v. v < 10 ^ 18) value (digits_value_short (numerals_by_value (AllDigits 10) tells_digits) ds 18 digits short);
    }
