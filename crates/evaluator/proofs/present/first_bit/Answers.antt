use Rattle.std.proofs.Common.{◌≡◌, ◌<◌, ◌≤◌, ◌-◌, ◌*◌, ◌^◌, ◌%◌, ℕ, min, w64, inl, inr, ◌∙◌, sym, ap, arith}
use Rattle.std.specs.Int.{bit_at, trailing_zeros}
use lib.Bits.{bit_and}
use Rattle.std.proofs.lemmas.Bool.{cases_lt}
use Rattle.std.proofs.lemmas.Nat.{and_le_l}
use Rattle.std.proofs.lemmas.Nat.Bits.{bit_at-lt, bit_at-trailing_zeros, bit_at-zero, bit_at_and, bit_at_mask_below, bit_at_mask_inside, ones_shl}
use Rattle.evaluator.proofs.present.first_bit.Goals as goal

-- the bits from there on
abbrev kept : ℕ → ℕ → ℕ
kept bits from = bit_and bits ((2 ^ 64 - 1) * 2 ^ from % 2 ^ 64)

at_mask : (bits from i : ℕ) → from < 64 → bit_at (kept bits from) i ≡ min (bit_at bits i) (bit_at (2 ^ 64 - 2 ^ from) i)
at_mask bits from i h = bit_at_and bits ((2 ^ 64 - 1) * 2 ^ from % 2 ^ 64) i ∙ ap (λ m. min (bit_at bits i) (bit_at m i)) (ones_shl 64 from (omega arith))

kept_from : (bits from i : ℕ) → from < 64 → from ≤ i → i < 64 → bit_at (kept bits from) i ≡ bit_at bits i
kept_from bits from i h on less =
    let inside = bit_at_mask_inside from 64 i on less in
    let low = bit_at-lt bits i in
    at_mask bits from i h ∙ ap (min (bit_at bits i)) inside ∙ (let e : min (bit_at bits i) 1 ≡ bit_at bits i = omega (arith, low) in e)

none_below : (bits from i : ℕ) → from < 64 → i < from → bit_at (kept bits from) i ≡ 0
none_below bits from i h less =
    at_mask bits from i h ∙ ap (min (bit_at bits i)) (bit_at_mask_below from 64 i less) ∙ (let e : min (bit_at bits i) 0 ≡ 0 = omega arith in e)

pub returns-then-rest-eq0-clause-passed : goal.returns-then-rest-eq0-clause-passed
returns-then-rest-eq0-clause-passed c i on less =
    sym (kept_from c.args.bits c.args.from i c.requires on less) ∙ ap (λ r. bit_at r i) c.if-rest-eq0.true ∙ bit_at-zero i

pub returns-else-rest-eq0-clause-onward : goal.returns-else-rest-eq0-clause-onward
returns-else-rest-eq0-clause-onward c =
    let rest = kept c.args.bits c.args.from in
    let small : rest < 2 ^ 64 = omega (arith, and_le_l c.args.bits ((2 ^ 64 - 1) * 2 ^ c.args.from % 2 ^ 64), c.ranges.bits.fits) in
    let low = bit_at-trailing_zeros w64 rest (omega (arith, c.if-rest-eq0.false)) small in
    elim (cases_lt (trailing_zeros w64 rest) c.args.from) [
      | inl less ↦ absurd (let e = sym (none_below c.args.bits c.args.from (trailing_zeros w64 rest) c.requires less) ∙ low.1 in omega (arith, e))
      | inr on ↦ on
    ]

pub returns-else-rest-eq0-clause-passed : goal.returns-else-rest-eq0-clause-passed
returns-else-rest-eq0-clause-passed c i on less =
    let rest = kept c.args.bits c.args.from in
    let small : rest < 2 ^ 64 = omega (arith, and_le_l c.args.bits ((2 ^ 64 - 1) * 2 ^ c.args.from % 2 ^ 64), c.ranges.bits.fits) in
    let low = bit_at-trailing_zeros w64 rest (omega (arith, c.if-rest-eq0.false)) small in
    sym (kept_from c.args.bits c.args.from i c.requires on (omega (arith, less, low.0))) ∙ low.2 i less
