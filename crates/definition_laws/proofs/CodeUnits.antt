-- Characters, the UTF-8 that spells them, and the code units of escapes.
use Rattle.std.proofs.Common.{◌≡◌, ℕ, zero, suc, ◌+◌, ◌*◌, ◌/◌, ◌%◌, ◌<◌, ◌≤◌, Bool, true, false, cond, ◌&&◌, ◌⊎◌, List, [], ◌∷◌, nat_lt, nat_le, Some, None, sym, refl, ◌∙◌, inl, inr, true≢false, arith}
use Rattle.std.proofs.lemmas.Bool.{ltb-true, leb-true, le-ltb, lt-ltb, le-leb, and_parts, cases_lt}
use Rattle.std.proofs.lemmas.Str.{IsUtf8-append, IsUtf8-drop, IsUtf8-from_ascii, IsCharBoundary-after_ascii}
use Rattle.std.specs.Char.{encode_utf8, IsScalar, is_digit, digit_value}
use Rattle.std.specs.List.{AllByRecursion as Each}
use Rattle.std.specs.Str.{IsUtf8, IsAscii}
use Rattle.json.specs.Text.{code_unit, is_high_surrogate, is_low_surrogate, surrogate_pair}

abbrev pub Bytes : Type 0
Bytes = List ℕ

abbrev pub IsHigh : ℕ → Type 0
IsHigh b = 128 ≤ b

-- ---- characters and bytes
pub after_ascii : (b : ℕ) (bs : Bytes) → IsUtf8 (b ∷ bs) → b < 128 → IsUtf8 bs
after_ascii b bs text small = IsUtf8-drop (b ∷ bs) 1 text (IsCharBoundary-after_ascii (b ∷ bs) 0 text (omega arith) small)

only_byte : (b : ℕ) → b < 128 → IsAscii (b ∷ [])
only_byte b small zero = small
only_byte b small (suc i) = omega arith

pub one_ascii : (b : ℕ) → b < 128 → IsUtf8 (b ∷ [])
one_ascii b small = IsUtf8-from_ascii (b ∷ []) (only_byte b small)

with_ascii : (b : ℕ) (bs : Bytes) → b < 128 → IsUtf8 bs → IsUtf8 (b ∷ bs)
with_ascii b bs small text = IsUtf8-append (b ∷ []) bs (one_ascii b small) text

-- a character's first byte, and the bytes after it
pub record IsSpelt (c : ℕ) : Type 0 where
  pub first : ℕ
  pub more : Bytes
  pub bytes : encode_utf8 c ≡ first ∷ more
  pub high : Each IsHigh more

pub spelt : (c : ℕ) → IsSpelt c
unfolding encode_utf8
spelt c = by_size (nat_lt c 128) (nat_lt c 2048) (nat_lt c 65536) refl refl refl
  where
    by_size : (x y z : Bool) → nat_lt c 128 ≡ x → nat_lt c 2048 ≡ y → nat_lt c 65536 ≡ z → IsSpelt c
    by_size true y z ex ey ez = record { first = c; more = []; bytes = rw ex refl; high = tt }
    by_size false true z ex ey ez = record { first = 192 + c / 64; more = (128 + c % 64) ∷ []; bytes = rw (ex, ey) refl; high = (omega arith, tt) }
    by_size false false true ex ey ez =
        record { first = 224 + c / 4096; more = (128 + (c / 64) % 64) ∷ (128 + c % 64) ∷ []; bytes = rw (ex, ey, ez) refl; high = (omega arith, (omega arith, tt)) }
    by_size false false false ex ey ez =
        record {
          first = 240 + c / 262144;
          more = (128 + (c / 4096) % 64) ∷ (128 + (c / 64) % 64) ∷ (128 + c % 64) ∷ [];
          bytes = rw (ex, ey, ez) refl;
          high = (omega arith, (omega arith, (omega arith, tt)));
        }

digit_small : (a : ℕ) → is_digit a 16 ≡ true → (a < 128) × (digit_value a < 16)
digit_small a e = (grind (arith, ltb-true (digit_value a) 16 e), ltb-true (digit_value a) 16 e)

pub record IsUnit (a b c d u : ℕ) : Type 0 where
  ascii_a : a < 128
  ascii_b : b < 128
  ascii_c : c < 128
  ascii_d : d < 128
  pub small : u < 65536

unit_at : (a b c d u : ℕ) (w x y z : Bool) → is_digit a 16 ≡ w → is_digit b 16 ≡ x → is_digit c 16 ≡ y → is_digit d 16 ≡ z
    → cond (w && x && y && z) (Some (digit_value a * 4096 + digit_value b * 256 + digit_value c * 16 + digit_value d)) None ≡ Some u → IsUnit a b c d u
unit_at a b c d u true true true true ea eb ec ed e =
    let is : digit_value a * 4096 + digit_value b * 256 + digit_value c * 16 + digit_value d ≡ u = cc in
    let sa = digit_small a ea in let sb = digit_small b eb in let sc = digit_small c ec in let sd = digit_small d ed in
    record { ascii_a = sa.0; ascii_b = sb.0; ascii_c = sc.0; ascii_d = sd.0; small = omega (arith, sa.1, sb.1, sc.1, sd.1) }
unit_at a b c d u true true true false ea eb ec ed e = cc
unit_at a b c d u true true false z ea eb ec ed e = cc
unit_at a b c d u true false y z ea eb ec ed e = cc
unit_at a b c d u false x y z ea eb ec ed e = cc

pub unit_of : (a b c d u : ℕ) → code_unit a b c d ≡ Some u → IsUnit a b c d u
unfolding code_unit
unit_of a b c d u e = unit_at a b c d u (is_digit a 16) (is_digit b 16) (is_digit c 16) (is_digit d 16) refl refl refl refl e

pub after_unit : (a b c d u : ℕ) (bs : Bytes) → IsUnit a b c d u → IsUtf8 (a ∷ b ∷ c ∷ d ∷ bs) → IsUtf8 bs
after_unit a b c d u bs unit text =
    after_ascii d bs (after_ascii c (d ∷ bs) (after_ascii b (c ∷ d ∷ bs) (after_ascii a (b ∷ c ∷ d ∷ bs) text unit.ascii_a) unit.ascii_b) unit.ascii_c) unit.ascii_d

scalar_below : (c : ℕ) → c < 55296 → IsScalar c
scalar_below c small = rw (lt-ltb c 55296 small) refl

scalar_above : (c : ℕ) → 57344 ≤ c → c < 1114112 → IsScalar c
scalar_above c large small = rw (le-ltb c 55296 (omega arith), le-leb 57344 c large, lt-ltb c 1114112 small) refl

high_or_low : (u : ℕ) → 55296 ≤ u → u < 57344 → (is_high_surrogate u ≡ true) ⊎ (is_low_surrogate u ≡ true)
high_or_low u above below = elim (cases_lt u 56320) [
  | inl high ↦ inl (rw (le-leb 55296 u above, lt-ltb u 56320 high) refl)
  | inr low ↦ inr (rw (le-leb 56320 u low, lt-ltb u 57344 below) refl)
]

pub no_surrogate : (u : ℕ) → u < 65536 → is_high_surrogate u ≡ false → is_low_surrogate u ≡ false → IsScalar u
no_surrogate u small no_high no_low = elim (cases_lt u 55296) [
  | inl below ↦ scalar_below u below
  | inr above ↦ elim (cases_lt u 57344) [
    | inl within ↦ elim (high_or_low u above within) [
      | inl high ↦ absurd (true≢false (sym high ∙ no_high))
      | inr low ↦ absurd (true≢false (sym low ∙ no_low))
    ]
    | inr beyond ↦ scalar_above u beyond (omega arith)
  ]
]

pub pair_scalar : (h l : ℕ) → is_high_surrogate h ≡ true → is_low_surrogate l ≡ true → IsScalar (surrogate_pair h l)
pair_scalar h l high low =
    let p = and_parts (nat_le 55296 h) (nat_lt h 56320) high in
    let q = and_parts (nat_le 56320 l) (nat_lt l 57344) low in
    let h_from = leb-true 55296 h p.0 in let h_to = ltb-true h 56320 p.1 in
    let l_from = leb-true 56320 l q.0 in let l_to = ltb-true l 57344 q.1 in
    scalar_above (surrogate_pair h l) (omega arith) (omega arith)
