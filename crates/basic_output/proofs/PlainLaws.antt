-- Texts and tokens of which nothing is escaped.
use Rattle.std.proofs.Common.{◌≡◌, ◌<◌, ◌≤◌, ◌^◌, ◌/◌, ◌%◌, ◌==◌, ◌&&◌, ◌||◌, ℕ, suc, ◌+◌, length, get_or, take, Bool, true, false, not, cond, List, [], ◌∷◌, ◌++◌, codes, decimal, flat_map, refl, sym, ap, ap₂, ◌∙◌, arith, append_assoc, append-nil}
use Rattle.std.proofs.Math.Seq.{take-suc}
use Rattle.std.proofs.lemmas.Bool.{agree_below_at, and_parts, eqb-false, leb-true, le-leb, not-true}
use Rattle.std.proofs.lemmas.Fmt.{decimal_is_IsNumeral}
use Rattle.std.proofs.lemmas.List.Folds.{list_all-append}
use Rattle.std.proofs.lemmas.Slice.Eq.{bytes_eq-Decides}
use Rattle.std.proofs.lemmas.Str.Parse.{digit_from_value}
use Rattle.std.specs.Str.Parse.{AllDigits}
use Rattle.std.specs.List.{list_all}
use Rattle.std.specs.Prelude.{nat_le}
use Rattle.json.specs.Print.{escape, escape_byte, quoted}
use Rattle.json.proofs.Printed.Strings.{escape_byte_plain}
use Rattle.definitions.specs.Bytes.{is_capital, is_small}
use Rattle.definitions.specs.Pointers.{escaped_byte, fragment_text, hex_digit, is_fragment_byte, percent_encoded_text, pointer_text}
use Rattle.definitions.specs.Values.{Text, same_text}
use Rattle.std.proofs.lemmas.Grind.{flat_map-append}
use Rattle.basic_output.specs.Notations.{IsPushed, escaped_text, notation_text, stands_in_pointer}
use Rattle.basic_output.specs.declared.unit_text.step_texts.Notation.{Notation}
use Rattle.basic_output.specs.declared.unit_text.step_texts.Notation.TheVariants as notation
use Rattle.basic_output.specs.Pieces.{are_plain, is_plain, is_unescaped, plain_text}

-- what stands for each byte of a text is the byte itself
kept : (f : ℕ → Text) (p : ℕ → Bool) → ((x : ℕ) → p x ≡ true → f x ≡ x ∷ []) → (xs : Text) → list_all p xs ≡ true → flat_map f xs ≡ xs
kept f p h [] e = refl
kept f p h (x ∷ xs) e =
    let q = and_parts (p x) (list_all p xs) e in
    ap₂ (λ a b. a ++ b) (h x q.0) (kept f p h xs q.1)

-- ---- in a string of JSON
unescaped_byte : (x : ℕ) → is_unescaped x ≡ true → escape_byte x ≡ x ∷ []
unescaped_byte x h =
    let p = and_parts (nat_le 32 x) (not (x == 34) && not (x == 92)) h in
    let q = and_parts (not (x == 34)) (not (x == 92)) p.1 in
    escape_byte_plain x (eqb-false x 34 (not-true (x == 34) q.0)) (eqb-false x 92 (not-true (x == 92) q.1)) (leb-true 32 x p.0)

pub escape_same : (t : Text) → list_all is_unescaped t ≡ true → escape t ≡ t
escape_same = kept escape_byte is_unescaped unescaped_byte

pub quoted_same : (t : Text) → escape t ≡ t → quoted t ≡ 34 ∷ (t ++ 34 ∷ [])
quoted_same t same = ap (λ s. 34 ∷ (s ++ 34 ∷ [])) same

pub all_of_both : (p : ℕ → Bool) (xs ys : Text) → list_all p xs ≡ true → list_all p ys ≡ true → list_all p (xs ++ ys) ≡ true
all_of_both p xs ys h g = list_all-append p xs ys ∙ ap₂ (λ a b. a && b) h g

pub one_more : (p : ℕ → Bool) (xs : Text) (i d : ℕ) → i < length xs → list_all p (take i xs) ≡ true → p (get_or xs i d) ≡ true → list_all p (take (i + 1) xs) ≡ true
one_more p xs i d less h g =
    let next : i + 1 ≡ suc i = omega arith in
    ap (λ n. list_all p (take n xs)) next ∙ ap (list_all p) (take-suc xs i d less) ∙ all_of_both p (take i xs) (get_or xs i d ∷ []) h (ap (λ b. b && true) g)

pub unescaped_message : (t : Text) → list_all is_unescaped t ≡ true → quoted (t ++ codes " is not met") ≡ 34 ∷ (t ++ codes " is not met\"")
unescaped_message t h =
    quoted_same (t ++ codes " is not met") (escape_same (t ++ codes " is not met") (all_of_both is_unescaped t (codes " is not met") h refl))
    ∙ ap (λ s. 34 ∷ s) (append_assoc t (codes " is not met") (34 ∷ []))

-- ---- in a pointer and in its fragment
agrees : ℕ → Bool
agrees n = cond (is_plain n) (same_text (escaped_byte n) (n ∷ []) && (is_fragment_byte n && is_unescaped n)) true

all_agree : (x : ℕ) → x < 123 → agrees x ≡ true
unfolding agrees
all_agree x below = agree_below_at agrees (λ n. true) 123 x refl below

is_small_enough : (x : ℕ) → is_plain x ≡ true → x < 123
is_small_enough x h = grind (arith, h)

pub chosen : (p b : Bool) → cond p b true ≡ true → p ≡ true → b ≡ true
chosen true b h e = h
chosen false b h e = cc

record Plain (x : ℕ) : Type 0 where
  in_pointer : escaped_byte x ≡ x ∷ []
  in_fragment : is_fragment_byte x ≡ true
  in_string : is_unescaped x ≡ true

plain : (x : ℕ) → is_plain x ≡ true → Plain x
unfolding agrees
plain x h =
    let all = chosen (is_plain x) _ (all_agree x (is_small_enough x h)) h in
    let p = and_parts (same_text (escaped_byte x) (x ∷ [])) (is_fragment_byte x && is_unescaped x) all in
    let q = and_parts (is_fragment_byte x) (is_unescaped x) p.1 in
    record { in_pointer = (bytes_eq-Decides (escaped_byte x) (x ∷ [])).0 p.0; in_fragment = q.0; in_string = q.1 }

abbrev ArePlain : List Text → Type 0
ArePlain ts = are_plain ts ≡ true

pub plain_pointer : (ts : List Text) → ArePlain ts → pointer_text ts ≡ plain_text ts
plain_pointer [] h = refl
plain_pointer (t ∷ ts) h =
    let q = and_parts (list_all is_plain t) _ h in
    ap₂ (λ a b. 47 ∷ (a ++ b)) (kept escaped_byte is_plain (λ x e. (plain x e).in_pointer) t q.0) (plain_pointer ts q.1)

-- a test that a `/` and all plain bytes pass
all_pass : (p : ℕ → Bool) → p 47 ≡ true → ((x : ℕ) → is_plain x ≡ true → p x ≡ true) → (ts : List Text) → ArePlain ts → list_all p (plain_text ts) ≡ true
all_pass p follows_comma h [] e = refl
all_pass p follows_comma h (t ∷ ts) e =
    let q = and_parts (list_all is_plain t) _ e in
    ap₂ (λ a b. a && b) follows_comma (all_of_both p t (plain_text ts) (passes t q.0) (all_pass p follows_comma h ts q.1))
  where
    passes : (xs : Text) → list_all is_plain xs ≡ true → list_all p xs ≡ true
    passes [] g = refl
    passes (x ∷ xs) g =
        let r = and_parts (is_plain x) (list_all is_plain xs) g in
        ap₂ (λ a b. a && b) (h x r.0) (passes xs r.1)

abbrev percent_byte : ℕ → Text
percent_byte c = cond (is_fragment_byte c) (c ∷ []) (37 ∷ hex_digit (c / 16) ∷ hex_digit (c % 16) ∷ [])

pub plain_fragment : (ts : List Text) → ArePlain ts → fragment_text ts ≡ plain_text ts
plain_fragment ts h =
    ap percent_encoded_text (plain_pointer ts h)
    ∙ kept percent_byte is_fragment_byte (λ x e. rw e refl) (plain_text ts) (all_pass is_fragment_byte refl (λ x e. (plain x e).in_fragment) ts h)

-- ---- of both parts
pub pointer_append : (ts us : List Text) → pointer_text (ts ++ us) ≡ pointer_text ts ++ pointer_text us
pointer_append ts us = flat_map-append (λ token. 47 ∷ flat_map escaped_byte token) ts us

pub fragment_append : (ts us : List Text) → fragment_text (ts ++ us) ≡ fragment_text ts ++ fragment_text us
fragment_append ts us = ap percent_encoded_text (pointer_append ts us) ∙ flat_map-append percent_byte (pointer_text ts) (pointer_text us)

-- ---- as they stand in the output
notation_append : (n : Notation) (ts us : List Text) → notation_text n (ts ++ us) ≡ notation_text n ts ++ notation_text n us
notation_append notation.Pointer ts us = pointer_append ts us
notation_append notation.Fragment ts us = fragment_append ts us

pub kept_append : (n : Notation) (ts us : List Text) → escaped_text n (ts ++ us) ≡ escaped_text n ts ++ escaped_text n us
kept_append n ts us = ap escape (notation_append n ts us) ∙ flat_map-append escape_byte (notation_text n ts) (notation_text n us)

pub kept_none : (n : Notation) → escaped_text n [] ≡ []
kept_none notation.Pointer = refl
kept_none notation.Fragment = refl

pub kept_led : (n : Notation) (t : Text) (ts : List Text) → (rest : Text) × (escaped_text n (t ∷ ts) ≡ 47 ∷ rest)
unfolding escape_byte
kept_led notation.Pointer t ts = (escape (flat_map escaped_byte t ++ pointer_text ts), refl)
kept_led notation.Fragment t ts = (escape (percent_encoded_text (flat_map escaped_byte t ++ pointer_text ts)), refl)

notation_plain : (n : Notation) (ts : List Text) → ArePlain ts → notation_text n ts ≡ plain_text ts
notation_plain notation.Pointer ts h = plain_pointer ts h
notation_plain notation.Fragment ts h = plain_fragment ts h

pub plain_kept : (n : Notation) (ts : List Text) → ArePlain ts → escaped_text n ts ≡ plain_text ts
plain_kept n ts h = ap escape (notation_plain n ts h) ∙ escape_same (plain_text ts) (all_pass is_unescaped refl (λ x e. (plain x e).in_string) ts h)

-- a token that stands in a pointer as it is
token_byte : (a b : Bool) (x : ℕ) → not a && not b ≡ true → cond a (126 ∷ 48 ∷ []) (cond b (126 ∷ 49 ∷ []) (x ∷ [])) ≡ x ∷ []
token_byte true b x h = cc
token_byte false true x h = cc
token_byte false false x h = refl

pub unescaped_token : (t : Text) → list_all stands_in_pointer t ≡ true → 47 ∷ escape t ≡ escaped_text notation.Pointer (t ∷ [])
unfolding escape_byte
unescaped_token t h = ap (λ u. 47 ∷ escape u) (sym (append-nil (flat_map escaped_byte t) ∙ kept escaped_byte stands_in_pointer (λ x e. token_byte (x == 126) (x == 47) x e) t h))

-- what is appended of a plain token
pub plain_pushed : (n : Notation) (t old new : Text) → list_all is_plain t ≡ true → new ≡ old ++ 47 ∷ t → IsPushed n t true old new
plain_pushed n t old new h is = record {
  text = is ∙ ap (λ u. old ++ u) (sym (plain_kept n (t ∷ []) (ap (λ b. b && true) h) ∙ append-nil (47 ∷ t)));
  is_plain = λ e. h;
}

-- ---- the digits of an index
third : (a b c : Bool) → (a || (b || (true || c))) ≡ true
third true b c = refl
third false true c = refl
third false false c = refl

digit_is_plain : (x : ℕ) → 48 ≤ x → x ≤ 57 → is_plain x ≡ true
digit_is_plain x low high = rw (le-leb 48 x low, le-leb x 57 high) (third (is_small x) (is_capital x) ((x == 36) || ((x == 45) || ((x == 46) || (x == 95)))))

digits_are_plain : (ds : Text) → AllDigits 10 ds → list_all is_plain ds ≡ true
digits_are_plain [] h = refl
digits_are_plain (d ∷ ds) h =
    let digit = digit_from_value d h.0 in
    ap₂ (λ a b. a && b) (digit_is_plain d (omega (arith, digit)) (omega (arith, digit))) (digits_are_plain ds h.1)

pub index_is_plain : (n : ℕ) → n < 2 ^ 64 → list_all is_plain (decimal n) ≡ true
index_is_plain n fits = digits_are_plain (decimal n) (decimal_is_IsNumeral n fits).0.1

pub plain_unescaped : (t : Text) → list_all is_plain t ≡ true → list_all is_unescaped t ≡ true
plain_unescaped [] h = refl
plain_unescaped (x ∷ xs) h =
    let q = and_parts (is_plain x) (list_all is_plain xs) h in
    ap₂ (λ a b. a && b) (plain x q.0).in_string (plain_unescaped xs q.1)
