-- The content of a string in a UTF-8 text is UTF-8.
use Rattle.std.proofs.Common.{◌≡◌, ℕ, zero, suc, ◌<◌, ◌≤◌, Bool, true, false, cond, ◌&&◌, ◌||◌, List, [], ◌∷◌, ◌++◌, length, nat_lt, ◌==◌, Some, None, Option, option_and_then, sym, refl, ap, ◌∙◌, subst, inl, inr, arith}
use Rattle.std.proofs.lemmas.Bool.{eqb-true, ne_eqb, le-ltb, and_parts, cases_lt}
use Rattle.std.proofs.lemmas.Str.{IsUtf8-nil, IsUtf8-append, IsUtf8-encode}
use Rattle.std.specs.Char.{encode_utf8}
use Rattle.std.specs.List.{AllByRecursion as Each}
use Rattle.std.specs.Str.{IsUtf8, encode_utf8_all, all_scalars as scalars}
use Rattle.json.specs.Text.{content, plain, after_backslash, after_u, after_high, prepend, code_unit, short_escape, is_high_surrogate, is_low_surrogate, surrogate_pair}
use lib.Utf8.{scalar}
use Rattle.definition_laws.proofs.CodeUnits.{Bytes, IsHigh, after_ascii, one_ascii, spelt, unit_of, after_unit, no_surrogate, pair_scalar}

-- ---- what stands before the content
prepended : (bs : Bytes) (o : Option Bytes) (s : Bytes) → prepend bs o ≡ Some s → (t : Bytes) × ((o ≡ Some t) × (bs ++ t ≡ s))
prepended bs None s e = cc
prepended bs (Some t) s e = (t, (refl, cc))

high_byte : (b : ℕ) (bs : Bytes) → 128 ≤ b → content plain (b ∷ bs) ≡ prepend (b ∷ []) (content plain bs)
unfolding content
high_byte b bs high =
    let no_quote : (b == 34) ≡ false = ne_eqb b 34 (λ e. omega arith) in
    let no_backslash : (b == 92) ≡ false = ne_eqb b 92 (λ e. omega arith) in
    let no_control : nat_lt b 32 ≡ false = le-ltb b 32 (omega arith) in
    rw (no_quote, no_backslash, no_control) refl

-- the rest of a character, and then UTF-8
record IsAfter (rest s : Bytes) : Type 0 where
  text : Bytes
  is : rest ++ text ≡ s
  utf8 : IsUtf8 text

abbrev IsGood : ℕ → Type 0
IsGood n = (bs rest more s : Bytes) → length bs ≤ n → bs ≡ rest ++ more → Each IsHigh rest → IsUtf8 more → content plain bs ≡ Some s → IsAfter rest s

-- ---- escapes
good_text : (n : ℕ) → IsGood n → (bs s : Bytes) → length bs ≤ n → IsUtf8 bs → content plain bs ≡ Some s → IsUtf8 s
good_text n good bs s short text e = let after = good bs [] bs s short refl tt text e in subst IsUtf8 after.is after.utf8

then_text : (n : ℕ) → IsGood n → (front bs s : Bytes) → length bs ≤ n → IsUtf8 front → IsUtf8 bs → prepend front (content plain bs) ≡ Some s → IsUtf8 s
then_text n good front bs s short ok text e =
    let t = prepended front (content plain bs) s e in
    subst IsUtf8 t.1.1 (IsUtf8-append front t.0 ok (good_text n good bs t.0 short text t.1.0))

-- the second half of a pair
second_half : (n : ℕ) → IsGood n → (h u : ℕ) (bs s : Bytes) (low : Bool) → is_low_surrogate u ≡ low → is_high_surrogate h ≡ true → length bs ≤ n → IsUtf8 bs
    → cond low (prepend (encode_utf8 (surrogate_pair h u)) (content plain bs)) None ≡ Some s → IsUtf8 s
second_half n good h u bs s true is_low is_high short text e =
    then_text n good (encode_utf8 (surrogate_pair h u)) bs s short (IsUtf8-encode (surrogate_pair h u) (pair_scalar h u is_high is_low)) text e
second_half n good h u bs s false is_low is_high short text e = cc

pair_at : (n : ℕ) → IsGood n → (h x y a b c d : ℕ) (bs s : Bytes) (o : Option ℕ) (slash letter : Bool) → code_unit a b c d ≡ o → (x == 92) ≡ slash → (y == 117) ≡ letter
    → is_high_surrogate h ≡ true → length bs ≤ n → IsUtf8 (x ∷ y ∷ a ∷ b ∷ c ∷ d ∷ bs)
    → cond (slash && letter) (option_and_then (λ l. cond (is_low_surrogate l) (prepend (encode_utf8 (surrogate_pair h l)) (content plain bs)) None) o) None ≡ Some s → IsUtf8 s
pair_at n good h x y a b c d bs s (Some u) true true eo ex ey is_high short text e =
    let is_x : x ≡ 92 = eqb-true x 92 ex in let is_y : y ≡ 117 = eqb-true y 117 ey in
    let digits = after_ascii y (a ∷ b ∷ c ∷ d ∷ bs) (after_ascii x (y ∷ a ∷ b ∷ c ∷ d ∷ bs) text (omega arith)) (omega arith) in
    second_half n good h u bs s (is_low_surrogate u) refl is_high short (after_unit a b c d u bs (unit_of a b c d u eo) digits) e
pair_at n good h x y a b c d bs s None true true eo ex ey is_high short text e = cc
pair_at n good h x y a b c d bs s o true false eo ex ey is_high short text e = cc
pair_at n good h x y a b c d bs s o false letter eo ex ey is_high short text e = cc

pair_text : (n : ℕ) → IsGood n → (h : ℕ) (bs s : Bytes) → is_high_surrogate h ≡ true → length bs ≤ n → IsUtf8 bs → content (after_high h) bs ≡ Some s → IsUtf8 s
unfolding content
pair_text n good h [] s high short text e = cc
pair_text n good h (x ∷ []) s high short text e = cc
pair_text n good h (x ∷ y ∷ []) s high short text e = cc
pair_text n good h (x ∷ y ∷ a ∷ []) s high short text e = cc
pair_text n good h (x ∷ y ∷ a ∷ b ∷ []) s high short text e = cc
pair_text n good h (x ∷ y ∷ a ∷ b ∷ c ∷ []) s high short text e = cc
pair_text n good h (x ∷ y ∷ a ∷ b ∷ c ∷ d ∷ bs) s high short text e =
    pair_at n good h x y a b c d bs s (code_unit a b c d) (x == 92) (y == 117) refl refl refl high (omega arith) text e

unit_text : (n : ℕ) → IsGood n → (u : ℕ) (bs s : Bytes) (high low : Bool) → is_high_surrogate u ≡ high → is_low_surrogate u ≡ low → u < 65536 → length bs ≤ n → IsUtf8 bs
    → cond high (content (after_high u) bs) (cond low None (prepend (encode_utf8 u) (content plain bs))) ≡ Some s → IsUtf8 s
unit_text n good u bs s true low is_high is_low small short text e = pair_text n good u bs s is_high short text e
unit_text n good u bs s false true is_high is_low small short text e = cc
unit_text n good u bs s false false is_high is_low small short text e =
    then_text n good (encode_utf8 u) bs s short (IsUtf8-encode u (no_surrogate u small is_high is_low)) text e

units_at : (n : ℕ) → IsGood n → (a b c d : ℕ) (bs s : Bytes) (o : Option ℕ) → code_unit a b c d ≡ o → length bs ≤ n → IsUtf8 (a ∷ b ∷ c ∷ d ∷ bs)
    → option_and_then (λ u. cond (is_high_surrogate u) (content (after_high u) bs) (cond (is_low_surrogate u) None (prepend (encode_utf8 u) (content plain bs)))) o ≡ Some s → IsUtf8 s
units_at n good a b c d bs s None eo short text e = cc
units_at n good a b c d bs s (Some u) eo short text e =
    let unit = unit_of a b c d u eo in
    unit_text n good u bs s (is_high_surrogate u) (is_low_surrogate u) refl refl unit.small short (after_unit a b c d u bs unit text) e

units_text : (n : ℕ) → IsGood n → (bs s : Bytes) → length bs ≤ n → IsUtf8 bs → content after_u bs ≡ Some s → IsUtf8 s
unfolding content
units_text n good [] s short text e = cc
units_text n good (a ∷ []) s short text e = cc
units_text n good (a ∷ b ∷ []) s short text e = cc
units_text n good (a ∷ b ∷ c ∷ []) s short text e = cc
units_text n good (a ∷ b ∷ c ∷ d ∷ bs) s short text e = units_at n good a b c d bs s (code_unit a b c d) refl (omega arith) text e

-- what one of the short escapes stands for
one_of_two : (x : ℕ) (p : Bool) (y c : ℕ) (o : Option ℕ) → (p ≡ true → x < 128) → y < 128 → (o ≡ Some c → (x < 128) × (c < 128)) → cond p (Some y) o ≡ Some c → (x < 128) × (c < 128)
one_of_two x true y c o small y_small more e = let is : y ≡ c = cc in (small refl, omega arith)
one_of_two x false y c o small y_small more e = more e

tested : (x k : ℕ) → k < 128 → (x == k) ≡ true → x < 128
tested x k small e = let is : x ≡ k = eqb-true x k e in omega arith

either_tested : (x : ℕ) (p q r : Bool) → (x == 34) ≡ p → (x == 92) ≡ q → (x == 47) ≡ r → (p || q || r) ≡ true → x < 128
either_tested x true q r ep eq er e = tested x 34 (omega arith) ep
either_tested x false true r ep eq er e = tested x 92 (omega arith) eq
either_tested x false false true ep eq er e = tested x 47 (omega arith) er
either_tested x false false false ep eq er e = cc

short_small : (x c : ℕ) → short_escape x ≡ Some c → (x < 128) × (c < 128)
unfolding short_escape
short_small x c e = itself ((x == 34) || (x == 92) || (x == 47)) refl e
  where
    rest : Option ℕ
    rest = cond (x == 98) (Some 8) (cond (x == 102) (Some 12) (cond (x == 110) (Some 10) (cond (x == 114) (Some 13) (cond (x == 116) (Some 9) None))))

    of_rest : rest ≡ Some c → (x < 128) × (c < 128)
    of_rest =
        one_of_two x (x == 98) 8 c _ (tested x 98 (omega arith)) (omega arith) (one_of_two x (x == 102) 12 c _ (tested x 102 (omega arith)) (omega arith)
        (one_of_two x (x == 110) 10 c _ (tested x 110 (omega arith)) (omega arith) (one_of_two x (x == 114) 13 c _ (tested x 114 (omega arith)) (omega arith)
        (one_of_two x (x == 116) 9 c None (tested x 116 (omega arith)) (omega arith) (λ none. cc)))))

    itself : (p : Bool) → ((x == 34) || (x == 92) || (x == 47)) ≡ p → cond p (Some x) rest ≡ Some c → (x < 128) × (c < 128)
    itself true ep h =
        let small : x < 128 = either_tested x (x == 34) (x == 92) (x == 47) refl refl refl ep in
        let is : x ≡ c = cc in
        (small, omega arith)
    itself false ep h = of_rest h

short_text : (n : ℕ) → IsGood n → (x : ℕ) (bs s : Bytes) (o : Option ℕ) → short_escape x ≡ o → length bs ≤ n → IsUtf8 (x ∷ bs)
    → option_and_then (λ c. prepend (c ∷ []) (content plain bs)) o ≡ Some s → IsUtf8 s
short_text n good x bs s None eo short text e = cc
short_text n good x bs s (Some c) eo short text e =
    let small = short_small x c eo in
    then_text n good (c ∷ []) bs s short (one_ascii c small.1) (after_ascii x bs text small.0) e

escape_at : (n : ℕ) → IsGood n → (x : ℕ) (bs s : Bytes) (letter : Bool) → (x == 117) ≡ letter → length bs ≤ n → IsUtf8 (x ∷ bs)
    → cond letter (content after_u bs) (option_and_then (λ c. prepend (c ∷ []) (content plain bs)) (short_escape x)) ≡ Some s → IsUtf8 s
escape_at n good x bs s true ex short text e = units_text n good bs s short (after_ascii x bs text (tested x 117 (omega arith) ex)) e
escape_at n good x bs s false ex short text e = short_text n good x bs s (short_escape x) refl short text e

escape_text : (n : ℕ) → IsGood n → (bs s : Bytes) → length bs ≤ n → IsUtf8 bs → content after_backslash bs ≡ Some s → IsUtf8 s
unfolding content
escape_text n good [] s short text e = cc
escape_text n good (x ∷ bs) s short text e = escape_at n good x bs s (x == 117) refl (omega arith) text e

-- ---- the whole content
plain_at : (n : ℕ) → IsGood n → (x : ℕ) (bs s : Bytes) (quote slash control : Bool) → (x == 92) ≡ slash → x < 128 → length bs ≤ n → IsUtf8 bs
    → cond quote (Some []) (cond slash (content after_backslash bs) (cond control None (prepend (x ∷ []) (content plain bs)))) ≡ Some s → IsUtf8 s
plain_at n good x bs s true slash control ex small short text e = let is : [] ≡ s = cc in subst IsUtf8 is IsUtf8-nil
plain_at n good x bs s false true control ex small short text e = escape_text n good bs s short text e
plain_at n good x bs s false false true ex small short text e = cc
plain_at n good x bs s false false false ex small short text e = then_text n good (x ∷ []) bs s short (one_ascii x small) text e

all_is : (x y : ℕ) (front text t s : Bytes) → x ≡ y → front ++ text ≡ t → x ∷ t ≡ s → y ∷ (front ++ text) ≡ s
all_is x y front text t s e f g = ap (λ b. b ∷ (front ++ text)) (sym e) ∙ ap (λ u. x ∷ u) f ∙ g

-- a character of more bytes than one
wide_at : (n : ℕ) → IsGood n → (x : ℕ) (bs s : Bytes) (cs : List ℕ) → length bs ≤ n → scalars cs ≡ true → encode_utf8_all cs ≡ x ∷ bs → 128 ≤ x
    → prepend (x ∷ []) (content plain bs) ≡ Some s → IsUtf8 s
wide_at n good x bs s [] short ok is high e = cc
wide_at n good x bs s (c ∷ cs) short ok is high e =
    let fine = and_parts (scalar c) (scalars cs) ok in
    let by = spelt c in
    let whole : by.first ∷ (by.more ++ encode_utf8_all cs) ≡ x ∷ bs = sym (ap (λ front. front ++ encode_utf8_all cs) by.bytes) ∙ is in
    let first : by.first ≡ x = cc in
    let rest : by.more ++ encode_utf8_all cs ≡ bs = cc in
    let t = prepended (x ∷ []) (content plain bs) s e in
    let after = good bs by.more (encode_utf8_all cs) t.0 short (sym rest) by.high (cs, (fine.1, refl)) t.1.0 in
    let all : encode_utf8 c ++ after.text ≡ s =
    ap (λ front. front ++ after.text) by.bytes ∙ all_is x by.first by.more after.text t.0 s (sym first) after.is t.1.1 in
    subst IsUtf8 all (IsUtf8-append (encode_utf8 c) after.text (IsUtf8-encode c fine.0) after.utf8)

first_at : (n : ℕ) → IsGood n → (x : ℕ) (bs s : Bytes) → length bs ≤ n → IsUtf8 (x ∷ bs) → content plain (x ∷ bs) ≡ Some s → IsUtf8 s
unfolding content
first_at n good x bs s short text e = elim (cases_lt x 128) [
  | inl small ↦ plain_at n good x bs s (x == 34) (x == 92) (nat_lt x 32) refl small short (after_ascii x bs text small) e
  | inr high ↦ wide_at n good x bs s text.0 short text.1.0 text.1.1 high (sym (high_byte x bs high) ∙ e)
]

no_end : (s : Bytes) → content plain [] ≡ Some s → ⊥
unfolding content
no_end s e = cc

good_at : (n : ℕ) → IsGood n → IsGood (suc n)
good_at n good [] [] more s short is high text e = absurd (no_end s e)
good_at n good [] (r ∷ rest) more s short is high text e = cc
good_at n good (x ∷ bs) [] more s short is high text e =
    record { text = s; is = refl; utf8 = first_at n good x bs s (omega arith) (subst IsUtf8 (sym is) text) e }
good_at n good (x ∷ bs) (r ∷ rest) more s short is high text e =
    let first : x ≡ r = cc in
    let later : bs ≡ rest ++ more = cc in
    let t = prepended (x ∷ []) (content plain bs) s (sym (high_byte x bs (omega (arith, high.0))) ∙ e) in
    let after = good bs rest more t.0 (omega arith) later high.1 text t.1.0 in
    record { text = after.text; is = all_is x r rest after.text t.0 s first after.is t.1.1; utf8 = after.utf8 }

good_none : IsGood zero
good_none [] [] more s short is high text e = absurd (no_end s e)
good_none [] (r ∷ rest) more s short is high text e = cc
good_none (x ∷ bs) rest more s short is high text e = absurd (omega arith)

good_all : (n : ℕ) → IsGood n
good_all zero = good_none
good_all (suc n) = good_at n (good_all n)

pub content_utf8 : (bs s : Bytes) → IsUtf8 bs → content plain bs ≡ Some s → IsUtf8 s
content_utf8 bs s text e = good_text (length bs) (good_all (length bs)) bs s (omega arith) text e
