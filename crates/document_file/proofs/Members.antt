-- What stands in a list.
use Rattle.std.proofs.Common.{arith, get_or, inl, inr, length, map, refl, suc, zero, Contains, List, [], ℕ, ◌<◌, ◌∷◌, ◌≡◌, ◌⊎◌}

pub nothing_in : {X : Type 0} (x : X) → Contains [] x → ⊥
nothing_in x c = absurd (omega (arith, c.1))

pub is_first : {X : Type 0} (x : X) (xs : List X) → Contains (x ∷ xs) x
is_first x xs = (0, omega arith, refl)

pub is_later : {X : Type 0} (x y : X) (xs : List X) → Contains xs y → Contains (x ∷ xs) y
is_later x y xs c = (suc c.0, omega (arith, c.1), c.2)

first_or_later : {X : Type 0} (x y : X) (xs : List X) → Contains (x ∷ xs) y → (x ≡ y) ⊎ Contains xs y
first_or_later {X} x y xs c = at c.0 c.1 c.2
  where
    at : (k : ℕ) → k < length (x ∷ xs) → get_or (x ∷ xs) k y ≡ y → (x ≡ y) ⊎ Contains xs y
    at zero l e = inl e
    at (suc k) l e = inr (k, omega arith, e)

pub from_map : {X Y : Type 0} (f : X → Y) (xs : List X) (y : Y) → Contains (map f xs) y → (x : X) × (Contains xs x × (f x ≡ y))
from_map f [] y c = absurd (nothing_in y c)
from_map {X} f (x ∷ xs) y c = elim (first_or_later (f x) y (map f xs) c) [
  | inl same ↦ (x, (is_first x xs, same))
  | inr later ↦ let there : (z : X) × (Contains xs z × (f z ≡ y)) = from_map f xs y later in (there.0, (is_later x there.0 xs there.1.0, there.1.1))
]
