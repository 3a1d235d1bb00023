-- Patterns stay held as what they are, whatever is put under one number.
use Rattle.std.proofs.Common.{ℕ, Option, Result, Some, nat_cmp}
use Rattle.std.proofs.lemmas.Map.Lookups.{exact_pairs, exact_unsigned}
use Rattle.std.specs.BTreeMap.{BTreeMap, IsUnchanged, Updates, UpdatesBy}
use Rattle.std.specs.Option.{IfSome}
use Rattle.std.specs.Result.{OnErr, OnOk}
use Rattle.patterns.specs.declared.held.HeldPattern.{HeldPattern}
use Rattle.linker.specs.declared.linked.Linked.{Linked}
use Rattle.keyword_plans.specs.Held.{AreHeld, IsHeld, number_of, parts_cmp}
use Rattle.keyword_plans.proofs.KeptByNumber.{right_after, right_with}

pub held_with : (l : Linked) (old new : BTreeMap (ℕ × ℕ) HeldPattern) (key : ℕ × ℕ) (w : Option HeldPattern) → AreHeld l old
    → UpdatesBy parts_cmp (parts_cmp key) old new w → IfSome w (IsHeld l (number_of key)) → AreHeld l new
held_with l = right_with parts_cmp (exact_pairs nat_cmp nat_cmp exact_unsigned exact_unsigned) (λ parts. IsHeld l (number_of parts))

-- and once it was tried to insert one
pub held_after : {E : Type 0} (l : Linked) (old new : BTreeMap (ℕ × ℕ) HeldPattern) (key : ℕ × ℕ) (w : HeldPattern) (r : Result (Option HeldPattern) E) → AreHeld l old
    → OnOk r (Updates parts_cmp old new key (Some w)) → OnErr r (IsUnchanged old new) → IsHeld l (number_of key) w → AreHeld l new
held_after l = right_after parts_cmp (exact_pairs nat_cmp nat_cmp exact_unsigned exact_unsigned) (λ parts. IsHeld l (number_of parts))
