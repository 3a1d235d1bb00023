-- Keys that stand twice, found by the set of those seen so far.
use Rattle.std.proofs.Common.{◌≡◌, List, [], ◌∷◌, Bool, true, false, cond, ◌||◌, map, refl, ap, ap₂, ◌∙◌, sym}
use Rattle.std.proofs.Math.Bool.{or-true}
use Rattle.std.specs.List.{list_any}
use Rattle.definitions.specs.Lists.{has_repeat}

four : (a b c d : Bool) → (cond a true b || (c || d)) ≡ ((a || c) || (b || d))
four true b c d = refl
four false b true d = or-true b
four false b false d = refl

joined : (a b c : Bool) → (a || (b || c)) ≡ ((b || a) || c)
joined true true c = refl
joined true false c = refl
joined false true c = refl
joined false false c = refl

module _ {K : Type 0} (alike : K → K → Bool) where
  -- a key that was seen stands in the list, or some two of the list are the same
  abbrev pub repeats : (K → Bool) → List K → Bool
  repeats seen ks = list_any seen ks || has_repeat alike ks

  any_seen : (seen more : K → Bool) (k : K) → ((q : K) → more q ≡ cond (alike k q) true (seen q)) → (ks : List K) → list_any more ks ≡ (list_any (alike k) ks || list_any seen ks)
  any_seen seen more k e [] = refl
  any_seen seen more k e (q ∷ ks) =
      ap (λ b. b || list_any more ks) (e q) ∙ ap (λ b. cond (alike k q) true (seen q) || b) (any_seen seen more k e ks)
      ∙ four (alike k q) (seen q) (list_any (alike k) ks) (list_any seen ks)

  pub repeats-new : (seen more : K → Bool) (k : K) (ks : List K) → ((q : K) → more q ≡ cond (alike k q) true (seen q)) → seen k ≡ false → repeats seen (k ∷ ks) ≡ repeats more ks
  repeats-new seen more k ks e new =
      ap (λ b. (b || list_any seen ks) || (list_any (alike k) ks || has_repeat alike ks)) new
      ∙ joined (list_any seen ks) (list_any (alike k) ks) (has_repeat alike ks)
      ∙ ap (λ b. b || has_repeat alike ks) (sym (any_seen seen more k e ks))

  pub repeats-seen : (seen : K → Bool) (k : K) (ks : List K) → seen k ≡ true → repeats seen (k ∷ ks) ≡ true
  repeats-seen seen k ks old = ap (λ b. (b || list_any seen ks) || (list_any (alike k) ks || has_repeat alike ks)) old

  no_seen : (seen : K → Bool) → ((q : K) → seen q ≡ false) → (ks : List K) → list_any seen ks ≡ false
  no_seen seen none [] = refl
  no_seen seen none (k ∷ ks) = ap (λ b. b || list_any seen ks) (none k) ∙ no_seen seen none ks

  pub repeats-none : (seen : K → Bool) → ((q : K) → seen q ≡ false) → (ks : List K) → repeats seen ks ≡ has_repeat alike ks
  repeats-none seen none ks = ap (λ b. b || has_repeat alike ks) (no_seen seen none ks)

-- the same keys by a view that the test sees
module _ {K A : Type 0} (view : K → A) (alike : K → K → Bool) (same : A → A → Bool) (agree : (x y : K) → alike x y ≡ same (view x) (view y)) where
  any-view : (k : K) (ks : List K) → list_any (alike k) ks ≡ list_any (same (view k)) (map view ks)
  any-view k [] = refl
  any-view k (q ∷ ks) = ap₂ (λ a b. a || b) (agree k q) (any-view k ks)

  pub has_repeat-view : (ks : List K) → has_repeat alike ks ≡ has_repeat same (map view ks)
  has_repeat-view [] = refl
  has_repeat-view (k ∷ ks) = ap₂ (λ a b. a || b) (any-view k ks) (has_repeat-view ks)
