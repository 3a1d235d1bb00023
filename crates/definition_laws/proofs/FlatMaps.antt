-- Lists that the elements of a list give, one after the other.
use Rattle.std.proofs.Common.{◌≡◌, List, [], ◌∷◌, ◌++◌, refl, ap₂, inl, inr}
use Rattle.std.specs.List.{flat_map}
use Rattle.definition_laws.proofs.Occurrences.{IsIn}

pub same_flat_map : {A B : Type 0} (f g : A → List B) (xs : List A) → ((x : A) → IsIn x xs → f x ≡ g x) → flat_map f xs ≡ flat_map g xs
same_flat_map f g [] h = refl
same_flat_map f g (x ∷ xs) h = ap₂ (λ ys zs. ys ++ zs) (h x (inl refl)) (same_flat_map f g xs (λ y i. h y (inr i)))
