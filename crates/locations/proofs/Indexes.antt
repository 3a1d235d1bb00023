-- What a token finds in an array: the index that it writes, and the element there.
use Rattle.std.proofs.Common.{◌≡◌, ◌≢◌, ℕ, ◌<◌, ◌≤◌, ◌^◌, ◌==◌, ◌&&◌, ◌||◌, not, List, [], ◌∷◌, Bool, true, false, cond, Option, Some, None, Result, Ok, Err, option_map, option_and_then, get_or, length, map, nat_lt, MatchOption, Bor, refl, sym, ap, ◌∙◌, arith, rules}
use Rattle.std.proofs.lemmas.Bool.{ltb-true, ltb-false, ne_eqb}
use Rattle.std.proofs.lemmas.Option.{slice_get_past, slice_get-get_or, slice_get-map}
use Rattle.std.proofs.lemmas.Str.Parse.{IsNumeralModel, numerals_by_fold, parse_plain}
use Rattle.std.specs.List.{list_all, slice_get, HoldsAt}
use Rattle.std.specs.Result.{OkIff, result_ok}
use Rattle.std.specs.Str.Parse.{ParsesUnsigned}
use Rattle.definitions.specs.Values.{Text, Value, array, to_elements}
use Rattle.definitions.specs.Pointers.{number_from, array_index, child}
use Rattle.definitions.specs.Bytes.{is_digit}
use Rattle.json_doc.specs.Docs.{value}
use Rattle.locations.specs.Indexes.{in_64_bits}
use Rattle.json_doc.specs.declared.doc.Doc.{Doc}
use Rattle.json_doc.proofs.Views.{elements_list-to_elements}

-- ---- the index
digits : IsNumeralModel (λ ds. list_all is_digit ds ≡ true) (number_from 0)
digits = numerals_by_fold _ (search rules) number_from (search rules)

in_word : (v : ℕ) (b : Bool) → nat_lt v (2 ^ 64) ≡ b → v < 2 ^ 64 → cond b (Some v) None ≡ Some v
in_word v true e h = refl
in_word v false e h = absurd (omega (arith, ltb-false v (2 ^ 64) e))

past_word : (v : ℕ) (b : Bool) → nat_lt v (2 ^ 64) ≡ b → (v < 2 ^ 64 → ⊥) → cond b (Some v) None ≡ None
past_word v true e h = absurd (h (ltb-true v (2 ^ 64) e))
past_word v false e h = refl

by_parse : {E : Type 0} (b : Bool) (v n : ℕ) (r : Result ℕ E) → OkIff r ((b ≡ true) × (0 < n) × (v < 2 ^ 64)) v → 0 < n
    → result_ok r ≡ option_and_then in_64_bits (cond b (Some v) None)
by_parse true v n (Ok x) h some = ap Some h.1 ∙ sym (in_word v (nat_lt v (2 ^ 64)) refl h.0.2)
by_parse false v n (Ok x) h some = let no : false ≡ true = h.0.0 in cc
by_parse true v n (Err e) h some = sym (past_word v (nat_lt v (2 ^ 64)) refl (λ small. h (refl, some, small)))
by_parse false v n (Err e) h some = refl

no_zero : (d z t : Bool) (v : ℕ) → t ≡ false → cond d (Some v) None ≡ cond (d && (z || not t)) (Some v) None
no_zero true true t v e = refl
no_zero true false true v e = cc
no_zero true false false v e = refl
no_zero false z t v e = refl

pub index_parsed : {E : Type 0} (bs : Text) (r : Result ℕ E) → 49 ≤ get_or bs 0 0 → ParsesUnsigned 64 10 bs r
    → result_ok r ≡ option_and_then in_64_bits (array_index bs)
index_parsed [] r low h = absurd (omega arith)
index_parsed (c ∷ cs) r low h =
    let plus : c ≢ 43 = omega arith in
    let zero : c ≢ 48 = omega arith in
    by_parse (list_all is_digit (c ∷ cs)) (number_from 0 (c ∷ cs)) (length (c ∷ cs)) r (parse_plain digits 64 (c ∷ cs) r h plus) (omega arith)
    ∙ ap (option_and_then in_64_bits) (no_zero (list_all is_digit (c ∷ cs)) (length cs == 0) (c == 48) (number_from 0 (c ∷ cs)) (ne_eqb c 48 zero))

-- ---- the element
by_word : (vs : List Value) (n : ℕ) (b : Bool) → nat_lt n (2 ^ 64) ≡ b → length vs ≤ 2 ^ 64
    → slice_get vs n ≡ option_and_then (slice_get vs) (cond b (Some n) None)
by_word vs n true e h = refl
by_word vs n false e h = slice_get_past vs n (omega (arith, ltb-false n (2 ^ 64) e))

words : (vs : List Value) (o : Option ℕ) → length vs ≤ 2 ^ 64 → option_and_then (slice_get vs) o ≡ option_and_then (slice_get vs) (option_and_then in_64_bits o)
words vs None h = refl
words vs (Some n) h = by_word vs n (nat_lt n (2 ^ 64)) refl h

-- no list is longer than the words for its indexes
pub element_of : (token : Text) (doc : Doc) (items : List Doc) (index : Option ℕ) → value doc ≡ array (to_elements (map value items)) → length (map value items) ≤ 2 ^ 64
    → index ≡ option_and_then in_64_bits (array_index token) → child token (value doc) ≡ option_and_then (slice_get (map value items)) index
element_of token doc items index is short e =
    ap (child token) is ∙ ap (λ vs. option_and_then (slice_get vs) (array_index token)) (elements_list-to_elements (map value items))
    ∙ words (map value items) (array_index token) short ∙ ap (option_and_then (slice_get (map value items))) (sym e)

pub element_at : (items : List Doc) (i : ℕ) (r : Option (Bor Doc)) → MatchOption r (length items ≤ i) (λ x. (i < length items) × HoldsAt (λ y. x.now ≡ y) items i)
    → option_map (λ d. value d.now) r ≡ slice_get (map value items) i
element_at items i None h = sym (slice_get-map value items i ∙ ap (option_map value) (slice_get_past items i h))
element_at items i (Some x) h =
    sym (slice_get-map value items i ∙ ap (option_map value) (slice_get-get_or items i x.now h.0) ∙ ap (λ y. Some (value y)) (sym (h.1 x.now)))
