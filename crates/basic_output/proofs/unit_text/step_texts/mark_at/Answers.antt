-- The table is held against the definitions at each of the 256 bytes, by computing.
use Rattle.std.proofs.Common.{ℕ, Bool, true, cond, get_or, refl, arith}
use Rattle.std.proofs.lemmas.Bool.{agree_below_at, le-leb}
use Rattle.std.specs.Prelude.{nat_le}
use Rattle.basic_output.specs.Notations.{stands_in_pointer}
use Rattle.basic_output.specs.Pieces.{is_plain}
use Rattle.basic_output.specs.declared.unit_text.step_texts.TheConstants.{MARKS}
use Rattle.basic_output.proofs.PlainLaws.{chosen}
use Rattle.basic_output.proofs.unit_text.step_texts.mark_at.Goals as goal

abbrev is_told : ℕ → (ℕ → Bool) → ℕ → Bool
is_told most p k = cond (nat_le (get_or MARKS k 0) most) (p k) true

pub returns-clause-plain : goal.returns-clause-plain
returns-clause-plain c =
    λ low. chosen (nat_le (get_or MARKS c.args.byte 0) 48) (is_plain c.args.byte) (agree_below_at (is_told 48 is_plain) (λ n. true) 256 c.args.byte refl (omega arith)) (le-leb (get_or MARKS c.args.byte 0) 48 low)

pub returns-clause-pointer : goal.returns-clause-pointer
returns-clause-pointer c =
    λ low. chosen (nat_le (get_or MARKS c.args.byte 0) 50) (stands_in_pointer c.args.byte) (agree_below_at (is_told 50 stands_in_pointer) (λ n. true) 256 c.args.byte refl (omega arith)) (le-leb (get_or MARKS c.args.byte 0) 50 (omega (arith, low)))
