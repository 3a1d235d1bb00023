-- An element is put at its place in a list that ascends by a key, in place of one with the same key.
use Rattle.std.proofs.Common.{◌≡◌, Bool, true, false, cond, ◌⊎◌, List, [], ◌∷◌, map, Contains, filter, flat_map, Ordering, Less, Equal, Greater, sym, refl, ap, ◌∙◌, subst, ap₂, inl, inr}
use Rattle.std.proofs.lemmas.Bool.{or_from, false_from_ne_true}
use Rattle.std.proofs.lemmas.Cmp.{tied_itself}
use Rattle.std.proofs.lemmas.List.Elements.{All-from_recursion, All-contains}
use Rattle.std.specs.Cmp.{IsTotalOrder}
use Rattle.std.specs.Ordering.{match_ordering, ordering_reverse}
use Rattle.std.specs.List.{AllByRecursion as Each, list_any}
use Rattle.std.specs.List.Sorted.{IsStrictlySortedBy}
use Rattle.definitions.specs.Lists.{has_repeat}
use Rattle.definition_laws.proofs.Membership.{nothing_in, is_first, is_later, first_or_later, in_map}
use Rattle.definition_laws.proofs.Repeats.{AreApart, any_none, joined, cut, from_flat_map, in_flat_map}

abbrev pub inserted : {X K : Type 0} → (K → K → Ordering) → (X → K) → X → List X → List X
inserted cmp key x [] = x ∷ []
inserted cmp key x (y ∷ ys) = match_ordering (cmp (key x) (key y)) (x ∷ y ∷ ys) (x ∷ ys) (y ∷ inserted cmp key x ys)

each_weaker : {K : Type 0} (P Q : K → Type 0) → ((k : K) → P k → Q k) → (ks : List K) → Each P ks → Each Q ks
each_weaker P Q h [] ps = tt
each_weaker P Q h (k ∷ ks) ps = (h k ps.0, each_weaker P Q h ks ps.1)

each_kept_at : {X K : Type 0} (P : K → Type 0) (key : X → K) (p : X → Bool) (x : X) (xs : List X) (b : Bool) → P (key x) → Each P (map key (filter p xs))
    → Each P (map key (cond b (x ∷ filter p xs) (filter p xs)))
each_kept_at P key p x xs true here rest = (here, rest)
each_kept_at P key p x xs false here rest = rest

each_kept : {X K : Type 0} (P : K → Type 0) (key : X → K) (p : X → Bool) (xs : List X) → Each P (map key xs) → Each P (map key (filter p xs))
each_kept P key p [] ps = tt
each_kept P key p (x ∷ xs) ps = each_kept_at P key p x xs (p x) ps.0 (each_kept P key p xs ps.1)

kept_ascending_at : {X K : Type 0} (cmp : K → K → Ordering) (key : X → K) (p : X → Bool) (x : X) (xs : List X) (b : Bool)
    → Each (λ k. cmp (key x) k ≡ Less) (map key (filter p xs)) → IsStrictlySortedBy cmp (map key (filter p xs))
    → IsStrictlySortedBy cmp (map key (cond b (x ∷ filter p xs) (filter p xs)))
unfolding IsStrictlySortedBy
kept_ascending_at cmp key p x xs true below rest = (below, rest)
kept_ascending_at cmp key p x xs false below rest = rest

-- what is kept of an ascending list ascends
pub kept_ascending : {X K : Type 0} (cmp : K → K → Ordering) (key : X → K) (p : X → Bool) (xs : List X) → IsStrictlySortedBy cmp (map key xs)
    → IsStrictlySortedBy cmp (map key (filter p xs))
unfolding IsStrictlySortedBy
kept_ascending cmp key p [] h = tt
kept_ascending cmp key p (x ∷ xs) h =
    kept_ascending_at cmp key p x xs (p x) (each_kept (λ k. cmp (key x) k ≡ Less) key p xs h.0) (kept_ascending cmp key p xs h.1)

-- an ascending list has no two elements that are alike, where what is alike ties
pub ascending_distinct : {K : Type 0} (cmp : K → K → Ordering) (alike : K → K → Bool) → ((a b : K) → alike a b ≡ true → cmp a b ≡ Equal)
    → (ks : List K) → IsStrictlySortedBy cmp ks → has_repeat alike ks ≡ false
unfolding IsStrictlySortedBy
ascending_distinct cmp alike ties [] h = refl
ascending_distinct cmp alike ties (k ∷ ks) h =
    or_from (list_any (alike k) ks) (has_repeat alike ks)
    (any_none (alike k) ks (λ a c. false_from_ne_true (alike k a) (λ e.
    unlike (sym (All-contains (λ b. cmp k b ≡ Less) ks a (All-from_recursion (λ b. cmp k b ≡ Less) ks h.0) c) ∙ ties k a e))))
    (ascending_distinct cmp alike ties ks h.1)
  where
    unlike : Less ≡ Equal → ⊥
    unlike e = cc

module _ {X K : Type 0} (cmp : K → K → Ordering) (order : IsTotalOrder cmp) (key : X → K) where
  each_inserted_at : (P : K → Type 0) (x y : X) (ys : List X) (o : Ordering) → P (key x) → P (key y) → Each P (map key ys) → Each P (map key (inserted cmp key x ys))
      → Each P (map key (match_ordering o (x ∷ y ∷ ys) (x ∷ ys) (y ∷ inserted cmp key x ys)))
  each_inserted_at P x y ys Less px py rest more = (px, (py, rest))
  each_inserted_at P x y ys Equal px py rest more = (px, rest)
  each_inserted_at P x y ys Greater px py rest more = (py, more)

  each_inserted : (P : K → Type 0) (x : X) (xs : List X) → P (key x) → Each P (map key xs) → Each P (map key (inserted cmp key x xs))
  each_inserted P x [] px ps = (px, tt)
  each_inserted P x (y ∷ ys) px ps = each_inserted_at P x y ys (cmp (key x) (key y)) px ps.0 ps.1 (each_inserted P x ys px ps.1)

  ascending_at : (x y : X) (ys : List X) (o : Ordering) → cmp (key x) (key y) ≡ o → IsStrictlySortedBy cmp (map key (y ∷ ys)) → IsStrictlySortedBy cmp (map key (inserted cmp key x ys))
      → IsStrictlySortedBy cmp (map key (match_ordering o (x ∷ y ∷ ys) (x ∷ ys) (y ∷ inserted cmp key x ys)))
  unfolding IsStrictlySortedBy
  ascending_at x y ys Less e h more =
      ((e, each_weaker (λ k. cmp (key y) k ≡ Less) (λ k. cmp (key x) k ≡ Less) (λ k less. order.trans (key x) (key y) k e less) (map key ys) h.0), h)
  ascending_at x y ys Equal e h more =
      (each_weaker (λ k. cmp (key y) k ≡ Less) (λ k. cmp (key x) k ≡ Less) (λ k less. order.congr (key x) (key y) k e ∙ less) (map key ys) h.0, h.1)
  ascending_at x y ys Greater e h more =
      (each_inserted (λ k. cmp (key y) k ≡ Less) x ys (order.antisymm (key y) (key x) ∙ ap ordering_reverse e) h.0, more)

  pub tail_ascending : (x : X) (xs : List X) → IsStrictlySortedBy cmp (map key (x ∷ xs)) → IsStrictlySortedBy cmp (map key xs)
  unfolding IsStrictlySortedBy
  tail_ascending x xs h = h.1

  pub first_below : (x y : X) (xs : List X) → IsStrictlySortedBy cmp (map key (x ∷ xs)) → Contains xs y → cmp (key x) (key y) ≡ Less
  unfolding IsStrictlySortedBy
  first_below x y xs h c =
      All-contains (λ k. cmp (key x) k ≡ Less) (map key xs) (key y) (All-from_recursion (λ k. cmp (key x) k ≡ Less) (map key xs) h.0) (in_map key y xs c)

  in_inserted_at : (x y z : X) (ys : List X) (o : Ordering) → cmp (key x) (key y) ≡ o → (cmp (key x) (key z) ≡ Equal → ⊥)
      → (Contains ys z → Contains (inserted cmp key x ys) z) → Contains (y ∷ ys) z → Contains (match_ordering o (x ∷ y ∷ ys) (x ∷ ys) (y ∷ inserted cmp key x ys)) z
  in_inserted_at x y z ys Less e other more c = is_later x z (y ∷ ys) c
  in_inserted_at x y z ys Equal e other more c = elim (first_or_later y z ys c) [
    | inl same ↦ absurd (other (ap (λ w. cmp (key x) (key w)) (sym same) ∙ e))
    | inr later ↦ is_later x z ys later
  ]
  in_inserted_at x y z ys Greater e other more c = elim (first_or_later y z ys c) [
    | inl same ↦ subst (Contains (y ∷ inserted cmp key x ys)) same (is_first y (inserted cmp key x ys))
    | inr later ↦ is_later y z (inserted cmp key x ys) (more later)
  ]

  -- what has another key stays
  pub in_inserted : (x z : X) (xs : List X) → (cmp (key x) (key z) ≡ Equal → ⊥) → Contains xs z → Contains (inserted cmp key x xs) z
  in_inserted x z [] other c = absurd (nothing_in z c)
  in_inserted x z (y ∷ ys) other c = in_inserted_at x y z ys (cmp (key x) (key y)) refl other (in_inserted x z ys other) c

  one_of_both : (x y : X) (xs ys : List X) → IsStrictlySortedBy cmp (map key (x ∷ xs)) → IsStrictlySortedBy cmp (map key (y ∷ ys))
      → (y ≡ x) ⊎ Contains ys x → (x ≡ y) ⊎ Contains xs y → x ≡ y
  one_of_both x y xs ys h k a b = elim a [
    | inl same ↦ sym same
    | inr below ↦ elim b [
      | inl same ↦ same
      | inr above ↦ absurd (unlike (sym (first_below x y xs h above) ∙ order.antisymm (key x) (key y) ∙ ap ordering_reverse (first_below y x ys k below)))
    ]
  ]
    where
      unlike : Less ≡ Greater → ⊥
      unlike e = cc

  in_rest : (x y z : X) (xs ys : List X) → IsStrictlySortedBy cmp (map key (x ∷ xs)) → x ≡ y → Contains xs z → Contains (y ∷ ys) z → Contains ys z
  in_rest x y z xs ys h same c d = elim (first_or_later y z ys d) [
    | inl first ↦ absurd (unlike (sym (first_below x z xs h c) ∙ ap (λ w. cmp (key x) (key w)) (sym (same ∙ first)) ∙ tied_itself order (key x)))
    | inr later ↦ later
  ]
    where
      unlike : Less ≡ Equal → ⊥
      unlike e = cc

  -- ascending lists with the same elements are the same
  pub same_ascending : (xs ys : List X) → IsStrictlySortedBy cmp (map key xs) → IsStrictlySortedBy cmp (map key ys)
      → ((z : X) → Contains xs z → Contains ys z) → ((z : X) → Contains ys z → Contains xs z) → xs ≡ ys
  same_ascending [] [] h k f g = refl
  same_ascending [] (y ∷ ys) h k f g = absurd (nothing_in y (g y (is_first y ys)))
  same_ascending (x ∷ xs) [] h k f g = absurd (nothing_in x (f x (is_first x xs)))
  same_ascending (x ∷ xs) (y ∷ ys) h k f g =
      let same = one_of_both x y xs ys h k (first_or_later y x ys (f x (is_first x xs))) (first_or_later x y xs (g y (is_first y ys))) in
      ap₂ (λ z zs. z ∷ zs) same
      (same_ascending xs ys (tail_ascending x xs h) (tail_ascending y ys k)
      (λ z c. in_rest x y z xs ys h same c (f z (is_later x z xs c)))
      (λ z c. in_rest y x z ys xs k (sym same) c (g z (is_later y z ys c))))

  pub ascending : (x : X) (xs : List X) → IsStrictlySortedBy cmp (map key xs) → IsStrictlySortedBy cmp (map key (inserted cmp key x xs))
  unfolding IsStrictlySortedBy
  ascending x [] h = (tt, tt)
  ascending x (y ∷ ys) h = ascending_at x y ys (cmp (key x) (key y)) refl h (ascending x ys h.1)

  from_inserted_at : (x y z : X) (ys : List X) (o : Ordering) → (Contains (inserted cmp key x ys) z → (x ≡ z) ⊎ Contains ys z)
      → Contains (match_ordering o (x ∷ y ∷ ys) (x ∷ ys) (y ∷ inserted cmp key x ys)) z → (x ≡ z) ⊎ Contains (y ∷ ys) z
  from_inserted_at x y z ys Less more c = first_or_later x z (y ∷ ys) c
  from_inserted_at x y z ys Equal more c = elim (first_or_later x z ys c) [ inl same ↦ inl same | inr later ↦ inr (is_later y z ys later) ]
  from_inserted_at x y z ys Greater more c = elim (first_or_later y z (inserted cmp key x ys) c) [
    | inl same ↦ inr (subst (Contains (y ∷ ys)) same (is_first y ys))
    | inr later ↦ elim (more later) [ inl itself ↦ inl itself | inr other ↦ inr (is_later y z ys other) ]
  ]

  pub from_inserted : (x z : X) (xs : List X) → Contains (inserted cmp key x xs) z → (x ≡ z) ⊎ Contains xs z
  from_inserted x z [] c = first_or_later x z [] c
  from_inserted x z (y ∷ ys) c = from_inserted_at x y z ys (cmp (key x) (key y)) (from_inserted x z ys) c

  module _ {Y : Type 0} (alike : Y → Y → Bool) (back : (a b : Y) → alike a b ≡ false → alike b a ≡ false) (names : X → List Y) where
    -- apart from the names of each element with another key
    abbrev pub IsApartFrom : X → List X → Type 0
    IsApartFrom x xs = (y : X) → Contains xs y → (cmp (key x) (key y) ≡ Equal → ⊥) → AreApart alike (names x) (names y)

    apart_from_all : (x : X) (xs : List X) → IsApartFrom x xs → ((y : X) → Contains xs y → cmp (key x) (key y) ≡ Less) → AreApart alike (names x) (flat_map names xs)
    apart_from_all x xs h below u v c d =
        let found : (y : X) × (Contains xs y × Contains (names y) v) = from_flat_map names v xs d in
        h found.0 found.1.0 (λ e. unlike (sym (below found.0 found.1.0) ∙ e)) u v c found.1.1
      where
        unlike : Less ≡ Equal → ⊥
        unlike e = cc

    distinct_at : (x y : X) (ys : List X) (o : Ordering) → cmp (key x) (key y) ≡ o → IsStrictlySortedBy cmp (map key (y ∷ ys))
        → has_repeat alike (names x) ≡ false → has_repeat alike (flat_map names (y ∷ ys)) ≡ false → IsApartFrom x (y ∷ ys)
        → has_repeat alike (flat_map names (inserted cmp key x ys)) ≡ false
        → has_repeat alike (flat_map names (match_ordering o (x ∷ y ∷ ys) (x ∷ ys) (y ∷ inserted cmp key x ys))) ≡ false
    distinct_at x y ys Less e sorted own h apart more =
        joined alike (names x) (flat_map names (y ∷ ys)) own h
        (apart_from_all x (y ∷ ys) apart (λ z c. elim (first_or_later y z ys c) [
          | inl same ↦ subst (λ w. cmp (key x) (key w) ≡ Less) same e
          | inr later ↦ order.trans (key x) (key y) (key z) e (first_below y z ys sorted later)
        ]))
    distinct_at x y ys Equal e sorted own h apart more =
        joined alike (names x) (flat_map names ys) own (cut alike (names y) (flat_map names ys) h).behind
        (apart_from_all x ys (λ z c. apart z (is_later y z ys c)) (λ z c. order.congr (key x) (key y) (key z) e ∙ first_below y z ys sorted c))
    distinct_at x y ys Greater e sorted own h apart more =
        let parts = cut alike (names y) (flat_map names ys) h in
        joined alike (names y) (flat_map names (inserted cmp key x ys)) parts.before more (λ u v c d.
        let found : (z : X) × (Contains (inserted cmp key x ys) z × Contains (names z) v) = from_flat_map names v (inserted cmp key x ys) d in
        elim (from_inserted x found.0 ys found.1.0) [
          | inl itself ↦ back v u (apart y (is_first y ys) (λ tie. unlike (sym tie ∙ e)) v u (subst (λ w. Contains (names w) v) (sym itself) found.1.1) c)
          | inr other ↦ parts.apart u v c (in_flat_map names found.0 v ys other found.1.1)
        ])
      where
        unlike : Equal ≡ Greater → ⊥
        unlike e = cc

    pub distinct : (x : X) (xs : List X) → IsStrictlySortedBy cmp (map key xs) → has_repeat alike (names x) ≡ false → has_repeat alike (flat_map names xs) ≡ false
        → IsApartFrom x xs → has_repeat alike (flat_map names (inserted cmp key x xs)) ≡ false
    distinct x [] sorted own h apart = joined alike (names x) [] own refl (λ u v c d. absurd (nothing_in v d))
    distinct x (y ∷ ys) sorted own h apart =
        distinct_at x y ys (cmp (key x) (key y)) refl sorted own h apart
        (distinct x ys (tail_ascending y ys sorted) own (cut alike (names y) (flat_map names ys) h).behind (λ z c. apart z (is_later y z ys c)))
