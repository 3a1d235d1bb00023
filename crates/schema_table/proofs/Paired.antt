-- Numbers by a URI and a name.
use Rattle.std.proofs.Common.{◌≡◌, ◌+◌, ◌&&◌, ◌⊎◌, ℕ, suc, List, [], ◌∷◌, Bool, true, false, cond, Option, Some, None, String, Global, option_and_then, refl, sym, ap, ap₂, ◌∙◌, arith, inl, inr}
use Rattle.std.proofs.lemmas.Slice.Eq.{bytes_eq-Decides}
use Rattle.std.specs.BTreeMap.{BTreeMap, get_by_text}
use Rattle.std.specs.List.{find, position_from, slice_get}
use Rattle.definitions.specs.Values.{Text, same_text}
use Rattle.lemmas.proofs.Texts.{same_text_turned}
use Rattle.schema_table.specs.PairNumbers.{name_number, pair_number}

abbrev pub Names : Type 0
Names = BTreeMap (String Global) ℕ

-- the names of a URI, with one more
pub pair-added : (old rest new : BTreeMap (String Global) Names) (before names : Names) (uri name : Text) (number : ℕ)
    → ((u : Text) → get_by_text new u ≡ cond (same_text uri u) (Some names) (get_by_text rest u))
    → ((n : Text) → get_by_text names n ≡ cond (same_text name n) (Some number) (get_by_text before n))
    → ((n : Text) → get_by_text before n ≡ pair_number old uri n)
    → ((u : Text) → same_text u uri ≡ false → get_by_text rest u ≡ get_by_text old u)
    → (u n : Text) → pair_number new u n ≡ cond (same_text u uri && same_text n name) (Some number) (pair_number old u n)
pair-added old rest new before names uri name number put added taken others u n =
    ap (option_and_then (name_number n)) (put u ∙ ap (λ b. cond b (Some names) (get_by_text rest u)) (same_text_turned uri u)) ∙ by (same_text u uri) refl
  where
    by : (b : Bool) → same_text u uri ≡ b → option_and_then (name_number n) (cond b (Some names) (get_by_text rest u)) ≡ cond (b && same_text n name) (Some number) (pair_number old u n)
    by true e =
        added n
        ∙ ap₂ (λ b o. cond b (Some number) o) (same_text_turned name n) (taken n ∙ ap (λ x. pair_number old x n) (sym ((bytes_eq-Decides u uri).0 e)))
    by false e = ap (option_and_then (name_number n)) (others u e)

-- ---- the first that passes, by its number
module _ {A : Type 0} (p : A → Bool) where
  abbrev Found : ℕ → Option ℕ → Option A → List A → Type 0
  Found k at_number x xs = ((at_number ≡ None) × (x ≡ None)) ⊎ ((j : ℕ) × (at_number ≡ Some (k + j)) × (x ≡ slice_get xs j))

  found : (k : ℕ) (xs : List A) → Found k (position_from p k xs) (find p xs) xs
  found k [] = inl (refl, refl)
  found k (x ∷ xs) = by (p x) _ _ (found (k + 1) xs)
    where
      by : (b : Bool) (o : Option ℕ) (y : Option A) → Found (k + 1) o y xs → Found k (cond b (Some k) o) (cond b (Some x) y) (x ∷ xs)
      by true o y f = inr (0, ap Some (omega arith), refl)
      by false o y (inl f) = inl f
      by false o y (inr f) = inr (suc f.0, f.1 ∙ ap Some (omega arith), f.2)

  pub found-by_number : (xs : List A) → option_and_then (slice_get xs) (position_from p 0 xs) ≡ find p xs
  found-by_number xs = elim (found 0 xs) [
    | inl f ↦ ap (option_and_then (slice_get xs)) f.0 ∙ sym f.1
    | inr f ↦ ap (option_and_then (slice_get xs)) (f.1 ∙ ap Some (omega arith)) ∙ sym f.2
  ]
