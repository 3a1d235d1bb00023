-- The first of those that are left, and the rest, are among all.
use Rattle.std.proofs.Common.{◌≡◌, ◌∷◌, List, Contains, suc, refl, sym, subst, arith}

pub first_contained : {X : Type 0} (all left : List X) (x : X) (xs : List X) → left ≡ x ∷ xs → ((y : X) → Contains left y → Contains all y) → Contains all x
first_contained all left x xs step within = within x (subst (λ ys. Contains ys x) (sym step) (0, omega arith, refl))

pub rest_contained : {X : Type 0} (all left : List X) (x : X) (xs : List X) → left ≡ x ∷ xs → ((y : X) → Contains left y → Contains all y) → (y : X) → Contains xs y → Contains all y
rest_contained all left x xs step within y h = within y (subst (λ ys. Contains ys y) (sym step) (suc h.0, omega (arith, h.1), h.2))
