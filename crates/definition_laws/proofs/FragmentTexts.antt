-- A pointer's text in a fragment, read back.
use Rattle.std.proofs.Common.{◌≡◌, ◌<◌, ◌≤◌, ◌+◌, ◌*◌, ◌/◌, ◌%◌, ◌==◌, ◌&&◌, ℕ, zero, suc, List, [], ◌∷◌, ◌++◌, Bool, true, false, cond, Option, Some, None, Err, option_map, option_and_then, codes, flat_map, refl, sym, ap, ap₂, subst, ◌∙◌, arith, append-nil, inl, inr}
use Rattle.std.proofs.lemmas.Bool.{and_parts, eqb-true, ltb-true, ltb-false, cases_order, ne_eqb}
use Rattle.std.proofs.lemmas.Grind.{flat_map-append}
use Rattle.std.proofs.lemmas.Str.{IsUtf8-append, IsUtf8-nil, is_utf8-from_IsUtf8, encode_ascii}
use Rattle.std.specs.Str.{IsUtf8}
use lib.Dec.{leb, ltb}
use lib.Utf8.{scalar, scalars, next, encode, encodes}
use Rattle.definitions.specs.Values.{Text}
use Rattle.definitions.specs.Fragments.{hex_value, percent_decoded_text, kind_of_text, kind_of_decoded_text, fragment_kind}
use Rattle.definitions.specs.Faults.{bad_fragment}
use Rattle.definitions.specs.Pointers.{Pointer, is_fragment_byte, hex_digit, percent_encoded_text, escaped_byte, pointer_text, fragment_text}

-- ---- bytes
abbrev pub AreBytes : Text → Type 0
AreBytes [] = Unit {0}
AreBytes (c ∷ cs) = (c < 256) × AreBytes cs

pub bytes-append : (xs ys : Text) → AreBytes xs → AreBytes ys → AreBytes (xs ++ ys)
bytes-append [] ys h k = k
bytes-append (x ∷ xs) ys h k = (h.0, bytes-append xs ys h.1 k)

-- ---- percent escapes (RFC 3986, 2.1)
below_all : (p : ℕ → Bool) → ℕ → Bool
below_all p zero = true
below_all p (suc n) = p n && below_all p n

below_each : (p : ℕ → Bool) (n m : ℕ) → below_all p n ≡ true → m < n → p m ≡ true
unfolding below_all
below_each p zero m h l = absurd (omega arith)
below_each p (suc n) m h l =
    let parts = and_parts (p n) (below_all p n) h in
    elim (cases_order m n) [
      | inl same ↦ subst (λ k. p k ≡ true) (sym same) parts.0
      | inr other ↦ below_each p n m parts.1 (elim other [ inl less ↦ less | inr more ↦ omega arith ])
    ]

is_number : Option ℕ → ℕ → Bool
is_number None n = false
is_number (Some m) n = m == n

number_is : (o : Option ℕ) (n : ℕ) → is_number o n ≡ true → o ≡ Some n
unfolding is_number
number_is None n h = absurd (cc)
number_is (Some m) n h = ap (λ k. Some k) (eqb-true m n h)

all_digits : below_all (λ k. is_number (hex_value (hex_digit k)) k) 16 ≡ true
unfolding below_all is_number
all_digits = refl

hex_back : (n : ℕ) → n < 16 → hex_value (hex_digit n) ≡ Some n
hex_back n l = number_is (hex_value (hex_digit n)) n (below_each (λ k. is_number (hex_value (hex_digit k)) k) 16 n all_digits l)

plain_decoded : (c : ℕ) (rest : Text) → (c == 37) ≡ false → percent_decoded_text (c ∷ rest) ≡ option_map (λ r. c ∷ r) (percent_decoded_text rest)
plain_decoded c [] e = rw e refl
plain_decoded c (d ∷ []) e = rw e (by (d == 37))
  where
    by : (b : Bool) → cond b None (Some (c ∷ d ∷ [])) ≡ option_map (λ r. c ∷ r) (cond b None (Some (d ∷ [])))
    by true = refl
    by false = refl
plain_decoded c (d ∷ f ∷ rest) e = rw e refl

escape_decoded : (c : ℕ) (rest : Text) → c < 256 → percent_decoded_text (37 ∷ hex_digit (c / 16) ∷ hex_digit (c % 16) ∷ rest) ≡ option_map (λ r. c ∷ r) (percent_decoded_text rest)
escape_decoded c rest l =
    let high : hex_value (hex_digit (c / 16)) ≡ Some (c / 16) = hex_back (c / 16) (omega arith) in
    let low : hex_value (hex_digit (c % 16)) ≡ Some (c % 16) = hex_back (c % 16) (omega arith) in
    let whole : 16 * (c / 16) + c % 16 ≡ c = omega arith in
    ap₂ (λ h o. option_and_then (λ m. option_and_then (λ n. option_map (λ r. (16 * m + n) ∷ r) (percent_decoded_text rest)) o) h) high low
    ∙ ap (λ n. option_map (λ r. n ∷ r) (percent_decoded_text rest)) whole

not_sign : (c : ℕ) → is_fragment_byte c ≡ true → (c == 37) ≡ false
not_sign c h = by (c == 37) refl
  where
    by : (b : Bool) → (c == 37) ≡ b → b ≡ false
    by true e = absurd (let no : is_fragment_byte c ≡ false = ap is_fragment_byte (eqb-true c 37 e) in let both : true ≡ false = sym h ∙ no in cc)
    by false e = refl

pub decoded_back : (t : Text) → AreBytes t → percent_decoded_text (percent_encoded_text t) ≡ Some t
decoded_back [] h = refl
decoded_back (c ∷ cs) h = by (is_fragment_byte c) refl (decoded_back cs h.1)
  where
    by : (b : Bool) → is_fragment_byte c ≡ b → percent_decoded_text (percent_encoded_text cs) ≡ Some cs
        → percent_decoded_text (cond b (c ∷ []) (37 ∷ hex_digit (c / 16) ∷ hex_digit (c % 16) ∷ []) ++ percent_encoded_text cs) ≡ Some (c ∷ cs)
    by true e back = plain_decoded c (percent_encoded_text cs) (not_sign c e) ∙ ap (option_map (λ r. c ∷ r)) back
    by false e back = escape_decoded c (percent_encoded_text cs) h.0 ∙ ap (option_map (λ r. c ∷ r)) back

-- ---- UTF-8
-- from 128 to 255
abbrev AreHigh : Text → Type 0
AreHigh [] = Unit {0}
AreHigh (c ∷ cs) = (128 ≤ c) × (c < 256) × AreHigh cs

high_kept : (t : Text) → AreHigh t → flat_map escaped_byte t ≡ t
high_kept [] h = refl
high_kept (c ∷ cs) h =
    let no_tilde : (c == 126) ≡ false = ne_eqb c 126 (λ e. omega (arith, h.0, e)) in
    let no_slash : (c == 47) ≡ false = ne_eqb c 47 (λ e. omega (arith, h.0, e)) in
    rw (no_tilde, no_slash) (ap (λ rest. c ∷ rest) (high_kept cs h.2))

high_bytes : (t : Text) → AreHigh t → AreBytes t
high_bytes [] h = tt
high_bytes (c ∷ cs) h = (h.1, high_bytes cs h.2)

scalar_below : (c : ℕ) → scalar c ≡ true → c < 1114112
scalar_below c h = by (ltb c 55296) refl h
  where
    by : (b : Bool) → ltb c 55296 ≡ b → cond b true (leb 57344 c && ltb c 1114112) ≡ true → c < 1114112
    by true e k = omega (arith, ltb-true c 55296 e)
    by false e k = ltb-true c 1114112 (and_parts (leb 57344 c) (ltb c 1114112) k).1

encode_high : (c : ℕ) → scalar c ≡ true → 128 ≤ c → AreHigh (encode c)
unfolding encode
encode_high c h l = by (ltb c 128) refl (ltb c 2048) refl (ltb c 65536) refl
  where
    below : c < 1114112
    below = scalar_below c h

    by : (one : Bool) → ltb c 128 ≡ one → (two : Bool) → ltb c 2048 ≡ two → (three : Bool) → ltb c 65536 ≡ three
        → AreHigh (cond one (c ∷ []) (cond two ((192 + c / 64) ∷ next c ∷ []) (cond three ((224 + c / 4096) ∷ next (c / 64) ∷ next c ∷ []) ((240 + c / 262144) ∷ next (c / 4096) ∷ next (c / 64) ∷ next c ∷ []))))
    by true d two e three f = absurd (omega (arith, ltb-true c 128 d))
    by false d true e three f = (omega arith, omega (arith, ltb-true c 2048 e), (omega arith, omega arith, tt))
    by false d false e true f = (omega arith, omega (arith, ltb-true c 65536 f), (omega arith, omega arith, (omega arith, omega arith, tt)))
    by false d false e false f = (omega arith, omega (arith, below), (omega arith, omega arith, (omega arith, omega arith, (omega arith, omega arith, tt))))

encoded_utf8 : (c : ℕ) → scalar c ≡ true → IsUtf8 (encode c)
encoded_utf8 c h = (c ∷ [], (rw h refl, append-nil (encode c)))

-- a text of UTF-8, and of bytes
abbrev IsPlain : Text → Type 0
IsPlain t = IsUtf8 t × AreBytes t

plain-append : (xs ys : Text) → IsPlain xs → IsPlain ys → IsPlain (xs ++ ys)
plain-append xs ys h k = (IsUtf8-append xs ys h.0 k.0, bytes-append xs ys h.1 k.1)

escaped_ascii : (c : ℕ) → scalar c ≡ true → c < 128 → IsPlain (escaped_byte c ++ [])
escaped_ascii c h l = cases (c == 126) (c == 47)
  where
    cases : (a b : Bool) → IsPlain (cond a (codes "~0") (cond b (codes "~1") (c ∷ [])) ++ [])
    cases true b = (IsUtf8-append (126 ∷ []) (48 ∷ []) (subst IsUtf8 (encode_ascii 126 (omega arith)) (encoded_utf8 126 refl)) (subst IsUtf8 (encode_ascii 48 (omega arith)) (encoded_utf8 48 refl)), (omega arith, (omega arith, tt)))
    cases false true = (IsUtf8-append (126 ∷ []) (49 ∷ []) (subst IsUtf8 (encode_ascii 126 (omega arith)) (encoded_utf8 126 refl)) (subst IsUtf8 (encode_ascii 49 (omega arith)) (encoded_utf8 49 refl)), (omega arith, (omega arith, tt)))
    cases false false = (subst IsUtf8 (encode_ascii c l) (encoded_utf8 c h), (omega arith, tt))

escaped_char : (c : ℕ) → scalar c ≡ true → IsPlain (flat_map escaped_byte (encode c))
escaped_char c h = by (ltb c 128) refl
  where
    by : (b : Bool) → ltb c 128 ≡ b → IsPlain (flat_map escaped_byte (encode c))
    by true e =
        let l : c < 128 = ltb-true c 128 e in
        subst (λ t. IsPlain (flat_map escaped_byte t)) (sym (encode_ascii c l)) (escaped_ascii c h l)
    by false e =
        let high : AreHigh (encode c) = encode_high c h (ltb-false c 128 e) in
        subst IsPlain (sym (high_kept (encode c) high)) (encoded_utf8 c h, high_bytes (encode c) high)

escaped_chars : (cs : List ℕ) → scalars cs ≡ true → IsPlain (flat_map escaped_byte (encodes cs))
escaped_chars [] h = (IsUtf8-nil, tt)
escaped_chars (c ∷ cs) h =
    let parts = and_parts (scalar c) (scalars cs) h in
    subst IsPlain (sym (flat_map-append escaped_byte (encode c) (encodes cs)))
    (plain-append (flat_map escaped_byte (encode c)) (flat_map escaped_byte (encodes cs)) (escaped_char c parts.0) (escaped_chars cs parts.1))

escaped_token : (t : Text) → IsUtf8 t → IsPlain (flat_map escaped_byte t)
escaped_token t (cs, (h, e)) = subst (λ x. IsPlain (flat_map escaped_byte x)) e (escaped_chars cs h)

abbrev pub AreTexts : Pointer → Type 0
AreTexts [] = Unit {0}
AreTexts (t ∷ ts) = IsUtf8 t × AreTexts ts

pub pointer_plain : (p : Pointer) → AreTexts p → IsPlain (pointer_text p)
pointer_plain [] h = (IsUtf8-nil, tt)
pointer_plain (t ∷ ts) h =
    let slash : IsPlain (47 ∷ []) = (subst IsUtf8 (encode_ascii 47 (omega arith)) (encoded_utf8 47 refl), (omega arith, tt)) in
    plain-append (47 ∷ flat_map escaped_byte t) (pointer_text ts) (plain-append (47 ∷ []) (flat_map escaped_byte t) slash (escaped_token t h.0)) (pointer_plain ts h.1)

-- ---- the fragment
pub fragment_back : (p : Pointer) → AreTexts p → fragment_kind (Some (fragment_text p)) ≡ kind_of_text (pointer_text p)
fragment_back p h =
    let plain = pointer_plain p h in
    ap kind_of_decoded_text (decoded_back (pointer_text p) plain.1)
    ∙ ap (λ b. cond b (kind_of_text (pointer_text p)) (Err bad_fragment)) (is_utf8-from_IsUtf8 (pointer_text p) plain.0)
