-- A set that is grown step by step inside a list stands still after as many steps as the list is long.
use Rattle.std.proofs.Common.{◌≡◌, ℕ, zero, suc, ◌≤◌, Bool, true, false, cond, ◌⊎◌, List, [], ◌∷◌, length, Contains, filter, sym, refl, ap, ◌∙◌, subst, inl, inr, arith}
use Rattle.std.proofs.lemmas.Bool.{cases_lt}
use Rattle.std.specs.List.{list_any}
use Rattle.definition_laws.proofs.Membership.{is_first, is_later, any_at, in_filter, from_filter, wider, filter_short}

module _ {X : Type 0} (leads : X → X → Bool) (own : (x : X) → leads x x ≡ true) (start : X → Bool) (all : List X) where
  abbrev pub once : List X → List X
  once xs = filter (λ y. list_any (λ x. leads x y) xs) all

  -- what is in after so many steps
  abbrev pub after : ℕ → List X
  after zero = filter start all
  after (suc n) = once (after n)

  abbrev is_in : ℕ → X → Bool
  is_in zero y = start y
  is_in (suc n) y = list_any (λ x. leads x y) (after n)

  by_test : (n : ℕ) → after n ≡ filter (is_in n) all
  by_test zero = refl
  by_test (suc n) = refl

  pub as_filter : (n : ℕ) → (p : X → Bool) × (after n ≡ filter p all)
  as_filter n = (is_in n, by_test n)

  pub inside : (n : ℕ) (x : X) → Contains (after n) x → Contains all x
  inside zero x c = (from_filter start x all c).0
  inside (suc n) x c = (from_filter (λ y. list_any (λ x. leads x y) (after n)) x all c).0

  pub led : (n : ℕ) (x y : X) → Contains (after n) x → Contains all y → leads x y ≡ true → Contains (after (suc n)) y
  led n x y c d e = in_filter (λ y. list_any (λ x. leads x y) (after n)) y all d (any_at (λ x. leads x y) x (after n) c e)

  pub kept : (n : ℕ) (x : X) → Contains (after n) x → Contains (after (suc n)) x
  kept n x c = led n x x c (inside n x c) (own x)

  pub kept_from_start : (n : ℕ) (x : X) → Contains all x → start x ≡ true → Contains (after n) x
  kept_from_start zero x c e = in_filter start x all c e
  kept_from_start (suc n) x c e = kept n x (kept_from_start n x c e)

  longer : (n : ℕ) → (length (after n) ≤ length (after (suc n))) × (length (after (suc n)) ≤ length (after n) → after (suc n) ≡ after n)
  longer n =
      let more = wider (is_in n) (is_in (suc n)) all (λ x c e. in_next n x c e) in
      subst (λ xs. (length xs ≤ length (after (suc n))) × (length (after (suc n)) ≤ length xs → after (suc n) ≡ xs)) (sym (by_test n)) (more.longer, more.same)
    where
      in_next : (n : ℕ) (x : X) → Contains all x → is_in n x ≡ true → is_in (suc n) x ≡ true
      in_next n x c e = any_at (λ z. leads z x) x (after n) (subst (λ xs. Contains xs x) (sym (by_test n)) (in_filter (is_in n) x all c e)) (own x)

  -- each step adds an element, or nothing is added from then on
  moves : (n : ℕ) → (after (suc n) ≡ after n) ⊎ (suc n ≤ length (after (suc n)))
  moves zero = elim (cases_lt (length (after zero)) (length (after (suc zero)))) [
    | inl more ↦ inr (omega arith)
    | inr no_more ↦ inl ((longer zero).1 no_more)
  ]
  moves (suc n) = elim (moves n) [
    | inl still ↦ inl (ap once still)
    | inr moved ↦ elim (cases_lt (length (after (suc n))) (length (after (suc (suc n))))) [
      | inl more ↦ inr (omega arith)
      | inr no_more ↦ inl ((longer (suc n)).1 no_more)
    ]
  ]

  pub stands_still : after (suc (length all)) ≡ after (length all)
  stands_still = elim (moves (length all)) [
    | inl still ↦ still
    | inr moved ↦ absurd (omega (arith, filter_short (is_in (suc (length all))) all))
  ]

  all_fail : (p : X → Bool) (xs : List X) → ((x : X) → Contains xs x → p x ≡ false) → filter p xs ≡ []
  all_fail p [] h = refl
  all_fail p (x ∷ xs) h = ap (λ b. cond b (x ∷ filter p xs) (filter p xs)) (h x (is_first x xs)) ∙ all_fail p xs (λ y c. h y (is_later x y xs c))

  pub nothing_from_nothing : ((x : X) → Contains all x → start x ≡ false) → (n : ℕ) → after n ≡ []
  nothing_from_nothing h zero = all_fail start all h
  nothing_from_nothing h (suc n) = ap once (nothing_from_nothing h n) ∙ all_fail (λ y. false) all (λ x c. refl)
