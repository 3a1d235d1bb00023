-- What stands in a list, in what a filter keeps of it, and in a list without repeats.
use Rattle.std.proofs.Common.{◌≡◌, ℕ, zero, suc, ◌<◌, ◌≤◌, Bool, true, false, cond, ◌⊎◌, List, [], ◌∷◌, map, length, get_or, Contains, filter, sym, refl, ap, ◌∙◌, inl, inr, true≢false, arith, find, Some, None}
use Rattle.std.proofs.lemmas.Bool.{or_parts, or_cases}
use Rattle.std.specs.List.{list_any}
use Rattle.definitions.specs.Lists.{has_repeat}
use Rattle.lemmas.proofs.Options.{some_from_is_some}
use Rattle.definition_laws.proofs.Occurrences.{in_from_contains, contains_from_in, into_map, into_filter, from_filter as out_of_filter, filter_passes, any_of_in, found_in, found_passes, found_somewhere}

-- ---- membership, element by element
pub nothing_in : {X : Type 0} (x : X) → Contains [] x → ⊥
nothing_in x c = absurd (omega (arith, c.1))

pub is_first : {X : Type 0} (x : X) (xs : List X) → Contains (x ∷ xs) x
is_first x xs = (0, omega arith, refl)

pub is_later : {X : Type 0} (x y : X) (xs : List X) → Contains xs y → Contains (x ∷ xs) y
is_later x y xs c = (suc c.0, omega (arith, c.1), c.2)

at_index : {X : Type 0} (x y : X) (xs : List X) (k : ℕ) → k < length (x ∷ xs) → get_or (x ∷ xs) k y ≡ y → (x ≡ y) ⊎ Contains xs y
at_index x y xs zero l e = inl e
at_index x y xs (suc k) l e = inr (k, omega arith, e)

pub first_or_later : {X : Type 0} (x y : X) (xs : List X) → Contains (x ∷ xs) y → (x ≡ y) ⊎ Contains xs y
first_or_later x y xs c = at_index x y xs c.0 c.1 c.2

pub in_map : {X Y : Type 0} (f : X → Y) (x : X) (xs : List X) → Contains xs x → Contains (map f xs) (f x)
in_map f x xs c = contains_from_in (map f xs) (f x) (into_map f xs x (in_from_contains xs x c))

-- ---- a test of some element
pub any_at : {X : Type 0} (p : X → Bool) (x : X) (xs : List X) → Contains xs x → p x ≡ true → list_any p xs ≡ true
any_at p x xs c e = any_of_in p xs x (in_from_contains xs x c) e

pub any_where : {X : Type 0} (p : X → Bool) (xs : List X) → list_any p xs ≡ true → (x : X) × (Contains xs x × (p x ≡ true))
any_where p [] e = absurd (true≢false (sym e))
any_where {X} p (y ∷ ys) e = elim (or_cases (p y) (list_any p ys) e) [
  | inl here ↦ (y, (is_first y ys, here))
  | inr later ↦ let found : (x : X) × (Contains ys x × (p x ≡ true)) = any_where p ys later in (found.0, (is_later y found.0 ys found.1.0, found.1.1))
]

-- ---- the first that passes
pub found_there : {X : Type 0} (p : X → Bool) (xs : List X) (y : X) → find p xs ≡ Some y → Contains xs y × (p y ≡ true)
found_there p xs y e = (contains_from_in xs y (found_in p xs y e), found_passes p xs y e)

pub found_none : {X : Type 0} (p : X → Bool) (xs : List X) → ((y : X) → Contains xs y → p y ≡ false) → find p xs ≡ None
found_none p [] h = refl
found_none p (x ∷ xs) h = rw (h x (is_first x xs)) (found_none p xs (λ y c. h y (is_later x y xs c)))

pub found_some : {X : Type 0} (p : X → Bool) (y : X) (xs : List X) → Contains xs y → p y ≡ true → (z : X) × (find p xs ≡ Some z)
found_some p y xs c e = some_from_is_some (find p xs) (found_somewhere p xs y (in_from_contains xs y c) e)

-- ---- a filter
pub in_filter : {X : Type 0} (p : X → Bool) (x : X) (xs : List X) → Contains xs x → p x ≡ true → Contains (filter p xs) x
in_filter p x xs c e = contains_from_in (filter p xs) x (into_filter p xs x (in_from_contains xs x c) e)

pub from_filter : {X : Type 0} (p : X → Bool) (x : X) (xs : List X) → Contains (filter p xs) x → Contains xs x × (p x ≡ true)
from_filter p x xs c =
    let i = in_from_contains (filter p xs) x c in
    (contains_from_in xs x (out_of_filter p xs x i), filter_passes p xs x i)

pub record IsWider {X : Type 0} (p q : X → Bool) (xs : List X) : Type 0 where
  pub longer : length (filter p xs) ≤ length (filter q xs)
  pub same : length (filter q xs) ≤ length (filter p xs) → filter q xs ≡ filter p xs

wider_at : {X : Type 0} (p q : X → Bool) (y : X) (ys : List X) (a b : Bool) → (a ≡ true → b ≡ true) → IsWider p q ys
    → (length (cond a (y ∷ filter p ys) (filter p ys)) ≤ length (cond b (y ∷ filter q ys) (filter q ys)))
    × (length (cond b (y ∷ filter q ys) (filter q ys)) ≤ length (cond a (y ∷ filter p ys) (filter p ys))
    → cond b (y ∷ filter q ys) (filter q ys) ≡ cond a (y ∷ filter p ys) (filter p ys))
wider_at p q y ys true true h more = (omega (arith, more.longer), λ l. ap (λ zs. y ∷ zs) (more.same (omega arith)))
wider_at p q y ys true false h more = absurd (true≢false (sym (h refl)))
wider_at p q y ys false true h more = (omega (arith, more.longer), λ l. absurd (omega (arith, more.longer)))
wider_at p q y ys false false h more = (more.longer, more.same)

-- a wider test keeps no less, and the same where it keeps no more
pub wider : {X : Type 0} (p q : X → Bool) (xs : List X) → ((x : X) → Contains xs x → p x ≡ true → q x ≡ true) → IsWider p q xs
wider p q [] h = record { longer = omega arith; same = λ l. refl }
wider p q (y ∷ ys) h =
    let here = wider_at p q y ys (p y) (q y) (h y (is_first y ys)) (wider p q ys (λ x c. h x (is_later y x ys c))) in
    record { longer = here.0; same = here.1 }

pub filter_short : {X : Type 0} (p : X → Bool) (xs : List X) → length (filter p xs) ≤ length xs
filter_short p [] = omega arith
filter_short p (y ∷ ys) = short (p y) (filter_short p ys)
  where
    short : (b : Bool) → length (filter p ys) ≤ length ys → length (cond b (y ∷ filter p ys) (filter p ys)) ≤ length (y ∷ ys)
    short true l = omega arith
    short false l = omega arith

-- ---- no repeats
abbrev pub IsSymmetric : {Y : Type 0} → (Y → Y → Bool) → Type 0
IsSymmetric {Y} alike = (a b : Y) → alike a b ≡ true → alike b a ≡ true

-- what is alike in a list without repeats is the same element
pub one_of : {X Y : Type 0} (alike : Y → Y → Bool) (f : X → Y) (back : IsSymmetric alike) (xs : List X) → has_repeat alike (map f xs) ≡ false
    → (x y : X) → Contains xs x → Contains xs y → alike (f x) (f y) ≡ true → x ≡ y
one_of alike f back [] h x y c d e = absurd (nothing_in x c)
one_of {X} alike f back (z ∷ zs) h x y c d e =
    let apart = or_parts (list_any (alike (f z)) (map f zs)) (has_repeat alike (map f zs)) h in
    elim (first_or_later z x zs c) [
      | inl here ↦ elim (first_or_later z y zs d) [
        | inl there ↦ sym here ∙ there
        | inr later ↦ absurd (other apart.0 y later (ap (λ u. alike (f u) (f y)) here ∙ e))
      ]
      | inr later ↦ elim (first_or_later z y zs d) [
        | inl there ↦ absurd (other apart.0 x later (ap (λ u. alike (f u) (f x)) there ∙ back (f x) (f y) e))
        | inr both ↦ one_of alike f back zs apart.1 x y later both e
      ]
    ]
  where
    other : list_any (alike (f z)) (map f zs) ≡ false → (u : X) → Contains zs u → alike (f z) (f u) ≡ true → ⊥
    other none u c e = true≢false (sym (any_at (alike (f z)) (f u) (map f zs) (in_map f u zs c) e) ∙ none)
