-- What is kept by number stays right, whatever is put under one number.
use Rattle.std.proofs.Common.{◌≡◌, Bool, true, false, Option, Some, Result, Ok, Err, refl, sym, ap, subst, ◌∙◌}
use Rattle.std.proofs.lemmas.Map.Lookups.{CmpEqualImpliesEq}
use Rattle.std.specs.BTreeMap.{BTreeMap, IsUnchanged, Updates, UpdatesBy, get, is_at}
use Rattle.std.specs.Cmp.{Equal-is}
use Rattle.std.specs.Map.{lookup}
use Rattle.std.specs.Option.{IfSome}
use Rattle.std.specs.Result.{OnErr, OnOk}
use Rattle.std.specs.declared.cmp.Ordering.{Ordering}

module _ {K V : Type 0} (cmp : K → K → Ordering) (exact : CmpEqualImpliesEq cmp) (IsRight : K → V → Type 0) where
  abbrev AreRight : BTreeMap K V → Type 0
  AreRight kept = (k : K) → IfSome (get cmp kept k) (IsRight k)

  pub right_with : (old new : BTreeMap K V) (key : K) (w : Option V) → AreRight old → UpdatesBy cmp (cmp key) old new w → IfSome w (IsRight key) → AreRight new
  right_with old new key w right updated one k = by (is_at (cmp key) k) refl
    where
      by : (b : Bool) → is_at (cmp key) k ≡ b → IfSome (get cmp new k) (IsRight k)
      by true e =
          let same : key ≡ k = exact key k ((Equal-is (cmp key k)).0 e) in
          let there : get cmp new k ≡ w = updated.0 k ∙ rw e refl in
          subst (λ o. IfSome o (IsRight k)) (sym there) (subst (λ x. IfSome w (IsRight x)) same one)
      by false e = subst (λ o. IfSome o (IsRight k)) (sym (updated.2 k e)) (right k)

  -- and once it was tried to insert one
  pub right_after : {E : Type 0} (old new : BTreeMap K V) (key : K) (w : V) (r : Result (Option V) E) → AreRight old → OnOk r (Updates cmp old new key (Some w))
      → OnErr r (IsUnchanged old new) → IsRight key w → AreRight new
  right_after old new key w (Ok o) right updated same one = right_with old new key (Some w) right updated one
  right_after old new key w (Err e) right updated same one = λ k. subst (λ o. IfSome o (IsRight k)) (sym (ap (lookup (is_at (cmp k))) same)) (right k)
