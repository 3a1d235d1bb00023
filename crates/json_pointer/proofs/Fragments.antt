-- The bytes of a fragment: what the set that is escaped holds, byte by byte, and a pointer's text run by run.
use Rattle.std.proofs.Common.{◌≡◌, ◌<◌, ◌≤◌, ◌+◌, ◌/◌, ◌%◌, ◌==◌, ◌||◌, ◌&&◌, ℕ, zero, suc, Bool, true, false, not, cond, Some, [], ◌∷◌, ◌++◌, codes, flat_map, get_or, take, drop, refl, ap, ◌∙◌, arith, inl, inr}
use Rattle.std.proofs.Math.Nat.{eq-or-lt_of_le}
use Rattle.std.proofs.lemmas.Bool.{and_parts}
use Rattle.std.proofs.lemmas.List.Concat.{flat_map-append}
use Rattle.std.proofs.lemmas.List.Quantifiers.{position-Some}
use Rattle.std.proofs.lemmas.Slice.Eq.{bytes_eq-Decides}
use Rattle.std.specs.List.{position}
use Rattle.percent_encoding.specs.AsciiSet.{should_percent_encode}
use Rattle.percent_encoding.specs.Percent.{percent_encode, percent_encode_byte}
use Rattle.percent_encoding.proofs.PercentLemmas.{percent_encode_escaped, percent_encode_kept, percent_encode-nil}
use Rattle.definitions.specs.Values.{Text, same_text}
use Rattle.definitions.specs.Pointers.{Pointer, escaped_byte, pointer_text, is_fragment_byte, hex_digit, percent_encoded_text, fragment_text}
use Rattle.json_pointer.specs.Escapes.{is_escaped}
use Rattle.json_pointer.specs.declared.pointer.fragment.TheConstants.{ESCAPED}
use Rattle.json_pointer.proofs.Escaped.{escape_at, pointer_text-more}

abbrev percent_escape : ℕ → Text
percent_escape b = 37 ∷ hex_digit (b / 16) ∷ hex_digit (b % 16) ∷ []

agrees : ℕ → Bool
agrees b = cond (is_fragment_byte b) (not (should_percent_encode ESCAPED b)) (should_percent_encode ESCAPED b)
    && same_text (percent_encode_byte b) (percent_escape b)

agree_below : ℕ → Bool
agree_below zero = true
agree_below (suc n) = agrees n && agree_below n

all_agree : agree_below 256 ≡ true
unfolding agrees agree_below should_percent_encode percent_encode_byte
all_agree = refl

agrees_at : (n b : ℕ) → b < n → agree_below n ≡ true → agrees b ≡ true
unfolding agree_below
agrees_at zero b h e = absurd (omega arith)
agrees_at (suc n) b h e =
    let p = and_parts (agrees n) (agree_below n) e in
    let le : b ≤ n = omega arith in
    elim (eq-or-lt_of_le le) [ inl same ↦ rw same p.0 | inr less ↦ agrees_at n b less p.1 ]

sorts : (p s : Bool) → cond p (not s) s ≡ true → s ≡ not p
sorts true true h = cc
sorts true false h = refl
sorts false true h = refl
sorts false false h = cc

escapes : (b : ℕ) → b < 256 → (should_percent_encode ESCAPED b ≡ not (is_fragment_byte b)) × (percent_encode_byte b ≡ percent_escape b)
unfolding agrees
escapes b h =
    let p = and_parts _ _ (agrees_at 256 b h all_agree) in
    (sorts (is_fragment_byte b) (should_percent_encode ESCAPED b) p.0, (bytes_eq-Decides (percent_encode_byte b) (percent_escape b)).0 p.1)

one : (b : ℕ) (bs : Text) (p : Bool) → should_percent_encode ESCAPED b ≡ not p → percent_encode_byte b ≡ percent_escape b
    → percent_encode ESCAPED (b ∷ bs) ≡ cond p (b ∷ []) (percent_escape b) ++ percent_encode ESCAPED bs
one b bs true e same = percent_encode_kept ESCAPED b bs e
one b bs false e same = percent_encode_escaped ESCAPED b bs e ∙ ap (λ r. r ++ percent_encode ESCAPED bs) same

-- the set's escapes are those of a fragment
pub encodes : (bs : Text) → ((k : ℕ) → get_or bs k 0 < 256) → percent_encode ESCAPED bs ≡ percent_encoded_text bs
encodes [] small = percent_encode-nil ESCAPED
encodes (b ∷ bs) small =
    let e = escapes b (small 0) in
    one b bs (is_fragment_byte b) e.0 e.1
    ∙ ap (λ r. cond (is_fragment_byte b) (b ∷ []) (percent_escape b) ++ r) (encodes bs (λ k. small (suc k)))

-- ---- a pointer's text, run by run
percent_encoded-append : (xs ys : Text) → percent_encoded_text (xs ++ ys) ≡ percent_encoded_text xs ++ percent_encoded_text ys
percent_encoded-append xs ys = flat_map-append (λ (c : ℕ). cond (is_fragment_byte c) (c ∷ []) (percent_escape c)) xs ys

escape_kept : (x : ℕ) (a b : Bool) → (x == 126) ≡ a → (x == 47) ≡ b → (a || b) ≡ true
    → percent_encoded_text (cond a (codes "~0") (cond b (codes "~1") (x ∷ []))) ≡ cond a (codes "~0") (cond b (codes "~1") (x ∷ []))
escape_kept x true b ea eb h = refl
escape_kept x false true ea eb h = refl
escape_kept x false false ea eb h = cc

-- the first escape, and what stands before and after it
pub fragment_at : (bs : Text) (i : ℕ) → position is_escaped bs ≡ Some i
    → percent_encoded_text (flat_map escaped_byte bs) ≡ percent_encoded_text (take i bs) ++ (escaped_byte (get_or bs i 0) ++ percent_encoded_text (flat_map escaped_byte (drop (i + 1) bs)))
fragment_at bs i e =
    let b = get_or bs i 0 in
    let after = flat_map escaped_byte (drop (i + 1) bs) in
    let escape : percent_encoded_text (escaped_byte b) ≡ escaped_byte b = escape_kept b (b == 126) (b == 47) refl refl (position-Some is_escaped bs i 0 e).1 in
    ap percent_encoded_text (escape_at bs i e) ∙ percent_encoded-append (take i bs) (escaped_byte b ++ after)
    ∙ ap (λ r. percent_encoded_text (take i bs) ++ r) (percent_encoded-append (escaped_byte b) after ∙ ap (λ r. r ++ percent_encoded_text after) escape)

-- one more token
pub fragment_text-more : (ts : Pointer) (t : Text) → fragment_text (ts ++ t ∷ []) ≡ (fragment_text ts ++ 47 ∷ []) ++ percent_encoded_text (flat_map escaped_byte t)
fragment_text-more ts t =
    ap percent_encoded_text (pointer_text-more ts t) ∙ percent_encoded-append (pointer_text ts ++ 47 ∷ []) (flat_map escaped_byte t)
    ∙ ap (λ r. r ++ percent_encoded_text (flat_map escaped_byte t)) (percent_encoded-append (pointer_text ts) (47 ∷ []))
