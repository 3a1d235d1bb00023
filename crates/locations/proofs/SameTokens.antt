-- When tokens are the same.
use Rattle.std.proofs.Common.{◌≡◌, ◌<◌, ◌^◌, ℕ, suc, List, [], ◌∷◌, false, length, nat_eq, decimal, refl, sym, ap, ◌∙◌, eq-eqb, inl, inr}
use Rattle.std.proofs.lemmas.Bool.{cases_eq, ne_eqb, false_from_ne_true, and_right}
use Rattle.std.proofs.lemmas.Slice.Eq.{bytes_eq-Decides}
use Rattle.std.proofs.lemmas.Fmt.{decimal_injective}
use Rattle.definitions.specs.Values.{same_text}
use Rattle.definitions.specs.Pointers.{same_pointer}
use Rattle.locations.specs.declared.step.Step.{Step}
use Rattle.locations.specs.Steps.{tokens}

pub same_decimals : (m n : ℕ) → m < 2 ^ 64 → n < 2 ^ 64 → nat_eq m n ≡ same_text (decimal m) (decimal n)
same_decimals m n fits_m fits_n =
    let decides = bytes_eq-Decides (decimal m) (decimal n) in
    elim (cases_eq m n) [
      | inl e ↦ eq-eqb m n e ∙ sym (decides.1 (ap decimal e))
      | inr differ ↦ ne_eqb m n differ ∙ sym (false_from_ne_true _ (λ h. differ (decimal_injective m n fits_m fits_n (decides.0 h))))
    ]

pub same_pointer-lengths : (xs ys : List Step) → (length xs ≡ length ys → ⊥) → same_pointer (tokens xs) (tokens ys) ≡ false
same_pointer-lengths [] [] h = absurd (h refl)
same_pointer-lengths [] (y ∷ ys) h = refl
same_pointer-lengths (x ∷ xs) [] h = refl
same_pointer-lengths (x ∷ xs) (y ∷ ys) h = and_right _ _ (same_pointer-lengths xs ys (λ e. h (ap suc e)))
