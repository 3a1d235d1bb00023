-- Repeats in a sorted list are neighbours.
use Rattle.std.proofs.Common.{◌≡◌, ℕ, suc, ◌+◌, ◌≤◌, Bool, true, false, cond, ◌||◌, List, [], ◌∷◌, get_or, is_eq, is_lt, Ordering, Less, Equal, Greater, sym, refl, ap, ◌∙◌, subst, true≢false, arith}
use Rattle.std.proofs.lemmas.Bool.{or_parts, or_from}
use Rattle.std.proofs.lemmas.Cmp.{eq_by_cmp_equiv}
use Rattle.std.proofs.lemmas.List.Recursion.{is_count_by}
use Rattle.std.proofs.lemmas.List.Sorted.{ranks_by, sorted_far, sum_by-IsPermutation}
use Rattle.std.specs.Cmp.{IsTotalOrder, IsEquivalence}
use Rattle.std.specs.List.{list_any}
use Rattle.std.specs.List.Sorted.{IsPermutation, IsSorted}
use Rattle.std.specs.Ordering.{ordering_reverse}
use Rattle.definitions.specs.Values.{Value, same}
use Rattle.definitions.specs.Lists.{has_repeat}
use Rattle.definition_laws.specs.Uniqueness.{has_same_neighbours}
use Rattle.definition_laws.proofs.Repeats.{none_of, any_none}

-- ---- counting
abbrev count : {X : Type 0} → (X → Bool) → List X → ℕ
count p [] = 0
count p (x ∷ xs) = cond (p x) (1 + count p xs) (count p xs)

count_none : {X : Type 0} (p : X → Bool) (xs : List X) → list_any p xs ≡ false → count p xs ≡ 0
count_none p [] e = refl
count_none p (x ∷ xs) e =
    let parts = or_parts (p x) (list_any p xs) e in
    ap (λ b. cond b (1 + count p xs) (count p xs)) parts.0 ∙ count_none p xs parts.1

none_at : {X : Type 0} (p : X → Bool) (xs : List X) (b : Bool) → cond b (1 + count p xs) (count p xs) ≤ 0 → (count p xs ≤ 0 → list_any p xs ≡ false) → (b || list_any p xs) ≡ false
none_at p xs true l more = absurd (omega arith)
none_at p xs false l more = more l

none_counted : {X : Type 0} (p : X → Bool) (xs : List X) → count p xs ≤ 0 → list_any p xs ≡ false
none_counted p [] l = refl
none_counted p (x ∷ xs) l = none_at p xs (p x) l (none_counted p xs)

count_permuted : {X : Type 0} (p : X → Bool) (xs ys : List X) → IsPermutation xs ys → count p ys ≡ count p xs
count_permuted p xs ys moved =
    is_count_by (count p) p refl (λ z zs. refl) ys ∙ sum_by-IsPermutation (λ z. cond (p z) 1 0) xs ys moved ∙ sym (is_count_by (count p) p refl (λ z zs. refl) xs)

same_test : (a b : Bool) → (a ≡ false → b ≡ false) → (b ≡ false → a ≡ false) → a ≡ b
same_test true true h k = refl
same_test true false h k = k refl
same_test false true h k = sym (h refl)
same_test false false h k = refl

-- ---- a list has no repeat exactly where nothing stands in it twice, so that its order doesn't matter
module _ {X : Type 0} (alike : X → X → Bool) (laws : IsEquivalence alike) where
  once_at : (x y : X) (ys : List X) (b : Bool) → alike x y ≡ b → list_any (alike y) ys ≡ false → count (alike x) ys ≤ 1
      → cond b (1 + count (alike x) ys) (count (alike x) ys) ≤ 1
  once_at x y ys true e none more =
      let others : count (alike x) ys ≡ 0 = count_none (alike x) ys (any_none (alike x) ys (λ z c. laws.congr x y z e ∙ none_of (alike y) z ys none c)) in
      omega arith
  once_at x y ys false e none more = more

  once : (xs : List X) → has_repeat alike xs ≡ false → (x : X) → count (alike x) xs ≤ 1
  once [] h x = omega arith
  once (y ∷ ys) h x =
      let parts = or_parts (list_any (alike y) ys) (has_repeat alike ys) h in
      once_at x y ys (alike x y) refl parts.0 (once ys parts.1 x)

  fewer_in_rest : (b : Bool) (n : ℕ) → cond b (1 + n) n ≤ 1 → n ≤ 1
  fewer_in_rest true n l = omega arith
  fewer_in_rest false n l = l

  not_twice : (xs : List X) → ((x : X) → count (alike x) xs ≤ 1) → has_repeat alike xs ≡ false
  not_twice [] h = refl
  not_twice (y ∷ ys) h =
      let own : 1 + count (alike y) ys ≤ 1 = subst (λ b. cond b (1 + count (alike y) ys) (count (alike y) ys) ≤ 1) (laws.refl y) (h y) in
      or_from (list_any (alike y) ys) (has_repeat alike ys) (none_counted (alike y) ys (omega arith))
      (not_twice ys (λ x. fewer_in_rest (alike x y) (count (alike x) ys) (h x)))

  pub repeat_permuted : (xs ys : List X) → IsPermutation xs ys → has_repeat alike xs ≡ has_repeat alike ys
  repeat_permuted xs ys moved =
      same_test (has_repeat alike xs) (has_repeat alike ys)
      (λ h. not_twice ys (λ x. subst (λ n. n ≤ 1) (sym (count_permuted (alike x) xs ys moved)) (once xs h x)))
      (λ h. not_twice xs (λ x. subst (λ n. n ≤ 1) (count_permuted (alike x) xs ys moved) (once ys h x)))

-- ---- in a sorted list
module _ (cmp : Value → Value → Ordering) (order : IsTotalOrder cmp) (is : (v w : Value) → same v w ≡ is_eq (cmp v w)) where
  same_laws : IsEquivalence same
  same_laws =
      let by_order = eq_by_cmp_equiv order in
      record {
        refl = λ v. is v v ∙ by_order.refl v;
        symm = λ v w. is v w ∙ by_order.symm v w ∙ sym (is w v);
        congr = λ v w u e. is v u ∙ by_order.congr v w u (sym (is v w) ∙ e) ∙ sym (is w u);
      }

  below_at : (v w : Value) (o : Ordering) → cmp v w ≡ o → is_lt (cmp w v) ≡ false → same v w ≡ false → cmp v w ≡ Less
  below_at v w Less e no_less other = e
  below_at v w Equal e no_less other = absurd (true≢false (sym (is v w ∙ ap is_eq e) ∙ other))
  below_at v w Greater e no_less other =
      absurd (true≢false (sym (ap is_lt (order.antisymm w v ∙ ap ordering_reverse e)) ∙ no_less))

  apart_at : (v w u : Value) (o : Ordering) → cmp w u ≡ o → cmp v w ≡ Less → is_lt (cmp u w) ≡ false → same v u ≡ false
  apart_at v w u Less e below no_less = is v u ∙ ap is_eq (order.trans v w u below e)
  apart_at v w u Equal e below no_less = sym (same_laws.congr w u v (is w u ∙ ap is_eq e) ∙ same_laws.symm u v) ∙ same_laws.symm w v ∙ is v w ∙ ap is_eq below
  apart_at v w u Greater e below no_less =
      absurd (true≢false (sym (ap is_lt (order.antisymm u w ∙ ap ordering_reverse e)) ∙ no_less))

  rest_sorted : (v : Value) (vs : List Value) → IsSorted cmp (v ∷ vs) → IsSorted cmp vs
  rest_sorted v vs sorted k d from within =
      let next : suc k + 1 ≡ suc (k + 1) = omega arith in
      subst (λ n. is_lt (cmp (get_or (v ∷ vs) n d) (get_or vs k d)) ≡ false) next (sorted (suc k) d (omega arith) (omega arith))

  first_apart : (v w : Value) (ws : List Value) → IsSorted cmp (v ∷ w ∷ ws) → same v w ≡ false → list_any (same v) ws ≡ false
  first_apart v w ws sorted other =
      let below = below_at v w (cmp v w) refl (sorted 0 v (omega arith) (omega arith)) other in
      any_none (same v) ws (λ u c.
      apart_at v w u (cmp w u) refl below
      (subst (λ x. is_lt (cmp x w) ≡ false) c.2
      (sorted_far (λ a b. is_lt (cmp a b)) (ranks_by order (λ x. x)) (w ∷ ws) (rest_sorted v (w ∷ ws) sorted) 0 (suc c.0) u (omega arith) (omega (arith, c.1)))))

  by_first : (v w : Value) (ws : List Value) (b : Bool) → (b ≡ false → list_any (same v) ws ≡ false) → has_repeat same (w ∷ ws) ≡ has_same_neighbours (w ∷ ws)
      → ((b || list_any (same v) ws) || has_repeat same (w ∷ ws)) ≡ (b || has_same_neighbours (w ∷ ws))
  by_first v w ws true apart rest = refl
  by_first v w ws false apart rest = ap (λ a. a || has_repeat same (w ∷ ws)) (apart refl) ∙ rest

  sorted_neighbours : (ws : List Value) → IsSorted cmp ws → has_repeat same ws ≡ has_same_neighbours ws
  sorted_neighbours [] sorted = refl
  sorted_neighbours (v ∷ []) sorted = refl
  sorted_neighbours (v ∷ w ∷ ws) sorted =
      by_first v w ws (same v w) (first_apart v w ws sorted) (sorted_neighbours (w ∷ ws) (rest_sorted v (w ∷ ws) sorted))

  pub neighbours : (vs ws : List Value) → IsPermutation vs ws → IsSorted cmp ws → has_repeat same vs ≡ has_same_neighbours ws
  neighbours vs ws moved sorted = repeat_permuted same same_laws vs ws moved ∙ sorted_neighbours ws sorted
