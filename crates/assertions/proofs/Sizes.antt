-- How many code points a text has, beside its bytes.
use Rattle.std.proofs.Common.{◌≡◌, ℕ, ◌*◌, ◌<◌, ◌≤◌, List, [], ◌∷◌, length, nat_le, true, false, ap, arith, length-append}
use Rattle.std.proofs.Math.Utf8.{encode, encodes}
use Rattle.std.proofs.lemmas.Bool.Decides.{nat_tests}
use Rattle.std.proofs.lemmas.Str.{encodes-chars, length-encode, len_utf8_bounds, length-le-encodes}
use Rattle.std.specs.Str.{chars, IsUtf8}

encodes-at_most : (cs : List ℕ) → length (encodes cs) ≤ 4 * length cs
encodes-at_most [] = omega arith
encodes-at_most (c ∷ cs) = omega (arith, length-append (encode c) (encodes cs), length-encode c, (len_utf8_bounds c).1, encodes-at_most cs)

-- each code point has one to four bytes
pub record HasLengths (bytes count : ℕ) : Type 0 where
  pub above : count ≤ bytes
  pub below : bytes ≤ 4 * count

pub chars-lengths : (bs : List ℕ) → IsUtf8 bs → HasLengths (length bs) (length (chars bs))
chars-lengths bs u =
    let e = ap length (encodes-chars bs u) in
    record {
      above = omega (arith, e, length-le-encodes (chars bs));
      below = omega (arith, e, encodes-at_most (chars bs));
    }

pub not_above : (m n : ℕ) → m ≤ n → true ≡ nat_le m n
not_above m n h = grind (arith, nat_tests)

pub above : (m n : ℕ) → n < m → false ≡ nat_le m n
above m n h = grind (arith, nat_tests)
