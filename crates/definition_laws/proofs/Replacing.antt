-- Elements that are placed one after the other in a list that ascends by a key, and among a part of it.
use Rattle.std.proofs.Common.{◌≡◌, Bool, true, false, List, [], ◌∷◌, map, Contains, filter, Ordering, Less, Equal, Greater, sym, refl, ap, ◌∙◌, inl, inr}
use Rattle.std.specs.Cmp.{IsTotalOrder}
use Rattle.std.specs.Ordering.{ordering_reverse}
use Rattle.std.specs.List.Sorted.{IsStrictlySortedBy}
use Rattle.definition_laws.proofs.Membership.{is_first, is_later, first_or_later, from_filter}
use Rattle.definition_laws.proofs.Placing.{inserted, tail_ascending, first_below}

-- where all pass nothing is left out
pub all_kept : {X : Type 0} (p : X → Bool) (xs : List X) → ((x : X) → Contains xs x → p x ≡ true) → filter p xs ≡ xs
all_kept p [] h = refl
all_kept p (x ∷ xs) h = rw (h x (is_first x xs), all_kept p xs (λ y c. h y (is_later x y xs c))) refl

module _ {X K : Type 0} (cmp : K → K → Ordering) (order : IsTotalOrder cmp) (key : X → K) where
  back : (x y : X) → cmp (key x) (key y) ≡ Less → cmp (key y) (key x) ≡ Greater
  back x y e = order.antisymm (key y) (key x) ∙ ap ordering_reverse e

  -- a lesser one and a greater one may be placed in either order
  in_turn_at : (x y z : X) (zs : List X) (o p : Ordering) → cmp (key x) (key y) ≡ Less → cmp (key y) (key z) ≡ o → cmp (key x) (key z) ≡ p
      → inserted cmp key x (inserted cmp key y zs) ≡ inserted cmp key y (inserted cmp key x zs)
      → inserted cmp key x (inserted cmp key y (z ∷ zs)) ≡ inserted cmp key y (inserted cmp key x (z ∷ zs))
  in_turn_at x y z zs Less p less e f more = rw (e, less, order.trans (key x) (key y) (key z) less e, back x y less, e) refl
  in_turn_at x y z zs Equal p less e f more =
      rw (e, less, order.antisymm (key x) (key z) ∙ ap ordering_reverse (sym (order.congr (key y) (key z) (key x) e) ∙ back x y less), back x y less, e) refl
  in_turn_at x y z zs Greater Less less e f more = rw (e, f, back x y less, e) refl
  in_turn_at x y z zs Greater Equal less e f more = rw (e, f, back x y less) refl
  in_turn_at x y z zs Greater Greater less e f more = rw (e, f, e) (ap (λ r. z ∷ r) more)

  in_turn : (x y : X) (zs : List X) → cmp (key x) (key y) ≡ Less → inserted cmp key x (inserted cmp key y zs) ≡ inserted cmp key y (inserted cmp key x zs)
  in_turn x y [] less = rw (less, back x y less) refl
  in_turn x y (z ∷ zs) less = in_turn_at x y z zs (cmp (key y) (key z)) (cmp (key x) (key z)) less refl refl (in_turn x y zs less)

  either_first_at : (x y : X) (zs : List X) (o : Ordering) → cmp (key x) (key y) ≡ o → (cmp (key x) (key y) ≡ Equal → ⊥)
      → inserted cmp key x (inserted cmp key y zs) ≡ inserted cmp key y (inserted cmp key x zs)
  either_first_at x y zs Less e other = in_turn x y zs e
  either_first_at x y zs Equal e other = absurd (other e)
  either_first_at x y zs Greater e other = sym (in_turn y x zs (order.antisymm (key y) (key x) ∙ ap ordering_reverse e))

  -- two with different keys may be placed in either order
  pub either_first : (x y : X) (zs : List X) → (cmp (key x) (key y) ≡ Equal → ⊥)
      → inserted cmp key x (inserted cmp key y zs) ≡ inserted cmp key y (inserted cmp key x zs)
  either_first x y zs other = either_first_at x y zs (cmp (key x) (key y)) refl other

  -- before all others
  pub in_front : (x : X) (zs : List X) → ((z : X) → Contains zs z → cmp (key x) (key z) ≡ Less) → inserted cmp key x zs ≡ x ∷ zs
  in_front x [] h = refl
  in_front x (z ∷ zs) h = rw (h z (is_first z zs)) refl

  pub below_all : (x z : X) (zs : List X) → IsStrictlySortedBy cmp (map key (z ∷ zs)) → cmp (key x) (key z) ≡ Less → (y : X) → Contains (z ∷ zs) y → cmp (key x) (key y) ≡ Less
  below_all x z zs sorted e y c = elim (first_or_later z y zs c) [
    | inl same ↦ ap (λ w. cmp (key x) (key w)) (sym same) ∙ e
    | inr later ↦ order.trans (key x) (key z) (key y) e (first_below cmp order key z y zs sorted later)
  ]

  below_rest : (x z : X) (zs : List X) → IsStrictlySortedBy cmp (map key (z ∷ zs)) → cmp (key x) (key z) ≡ Equal → (y : X) → Contains zs y → cmp (key x) (key y) ≡ Less
  below_rest x z zs sorted e y c = order.congr (key x) (key z) (key y) e ∙ first_below cmp order key z y zs sorted c

  -- ---- a part of the list, by a test of keys
  module _ (p : X → Bool) (by_key : (a b : X) → cmp (key a) (key b) ≡ Equal → p a ≡ p b) where
    among_part_at : (x z : X) (zs : List X) (o : Ordering) (b : Bool) → cmp (key x) (key z) ≡ o → p z ≡ b → p x ≡ true → IsStrictlySortedBy cmp (map key (z ∷ zs))
        → filter p (inserted cmp key x zs) ≡ inserted cmp key x (filter p zs)
        → filter p (inserted cmp key x (z ∷ zs)) ≡ inserted cmp key x (filter p (z ∷ zs))
    among_part_at x z zs Less b e f passes sorted more =
        rw (e, passes) (sym (in_front x (filter p (z ∷ zs)) (λ y c. below_all x z zs sorted e y (from_filter p y (z ∷ zs) c).0)))
    among_part_at x z zs Equal b e f passes sorted more = rw (e, passes, sym (by_key x z e) ∙ passes, e) refl
    among_part_at x z zs Greater true e f passes sorted more = rw (e, f, e) (ap (λ r. z ∷ r) more)
    among_part_at x z zs Greater false e f passes sorted more = rw (e, f) more

    -- what passes may be placed before or after the others are left out
    pub among_part : (x : X) (zs : List X) → p x ≡ true → IsStrictlySortedBy cmp (map key zs) → filter p (inserted cmp key x zs) ≡ inserted cmp key x (filter p zs)
    among_part x [] passes sorted = rw passes refl
    among_part x (z ∷ zs) passes sorted =
        among_part_at x z zs (cmp (key x) (key z)) (p z) refl refl passes sorted (among_part x zs passes (tail_ascending cmp order key z zs sorted))

  module _ (x : X) (p : X → Bool) (leaves_tied : (z : X) → cmp (key x) (key z) ≡ Equal → p z ≡ false) (keeps_others : (z : X) → (cmp (key x) (key z) ≡ Equal → ⊥) → p z ≡ true) where
    differs : (z : X) → cmp (key x) (key z) ≡ Less → p z ≡ true
    differs z e = keeps_others z (λ tie. unlike (sym e ∙ tie))
      where
        unlike : Less ≡ Equal → ⊥
        unlike e = cc

    in_place_at : (z : X) (zs : List X) (o : Ordering) → cmp (key x) (key z) ≡ o → IsStrictlySortedBy cmp (map key (z ∷ zs))
        → inserted cmp key x (filter p zs) ≡ inserted cmp key x zs → inserted cmp key x (filter p (z ∷ zs)) ≡ inserted cmp key x (z ∷ zs)
    in_place_at z zs Less e sorted more = ap (inserted cmp key x) (all_kept p (z ∷ zs) (λ y c. differs y (below_all x z zs sorted e y c)))
    in_place_at z zs Equal e sorted more =
        rw (leaves_tied z e, all_kept p zs (λ y c. differs y (below_rest x z zs sorted e y c)), e) (in_front x zs (below_rest x z zs sorted e))
    in_place_at z zs Greater e sorted more = rw (keeps_others z (λ tie. unlike (sym e ∙ tie)), e) (ap (λ r. z ∷ r) more)
      where
        unlike : Greater ≡ Equal → ⊥
        unlike e = cc

    -- it is placed where the one with its key stood
    pub in_place : (zs : List X) → IsStrictlySortedBy cmp (map key zs) → inserted cmp key x (filter p zs) ≡ inserted cmp key x zs
    in_place [] sorted = refl
    in_place (z ∷ zs) sorted = in_place_at z zs (cmp (key x) (key z)) refl sorted (in_place zs (tail_ascending cmp order key z zs sorted))
