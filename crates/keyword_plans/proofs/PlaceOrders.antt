-- The order of places.
use Rattle.std.proofs.Common.{◌≡◌, ◌<◌, ◌≤◌, ℕ, List, [], ◌∷◌, length, drop, decimal, Ordering, Less, Equal, Greater, refl, sym, ap, ap₂, arith}
use Rattle.std.proofs.lemmas.Cmp.{ranked}
use Rattle.std.proofs.lemmas.List.{length-drop}
use Rattle.std.specs.Ordering.{nat_cmp, ordering_then}
use Rattle.definitions.specs.Values.{Text}
use Rattle.definition_laws.proofs.PlacedDocuments.{tied}
use Rattle.keywords.specs.Rows.{row_of}
use Rattle.locations.specs.Steps.{token, tokens}
use Rattle.locations.specs.declared.step.Step.{Step}
use Rattle.locations.specs.declared.step.Step.TheVariants.{Name, Index, Keyword}
use Rattle.keyword_plans.specs.Places.{index_order, name_order, step_order, steps_order}

-- ---- places of which one ends before the other
none_before_some : (ss ts : List Step) → length ss ≤ 0 → 0 < length ts → steps_order ss ts ≡ Less
none_before_some [] [] h k = absurd (omega arith)
none_before_some [] (t ∷ ts) h k = refl
none_before_some (s ∷ ss) ts h k = absurd (omega arith)

some_after_none : (ss ts : List Step) → 0 < length ss → length ts ≤ 0 → steps_order ss ts ≡ Greater
some_after_none [] ts h k = absurd (omega arith)
some_after_none (s ∷ ss) [] h k = refl
some_after_none (s ∷ ss) (t ∷ ts) h k = absurd (omega arith)

pub ended_first : (ss ts : List Step) (i : ℕ) → length ss ≤ i → i < length ts → steps_order (drop i ss) (drop i ts) ≡ Less
ended_first ss ts i h k = none_before_some (drop i ss) (drop i ts) (omega (arith, length-drop i ss)) (omega (arith, length-drop i ts))

pub ended_later : (ss ts : List Step) (i : ℕ) → i < length ss → length ts ≤ i → steps_order (drop i ss) (drop i ts) ≡ Greater
ended_later ss ts i h k = some_after_none (drop i ss) (drop i ts) (omega (arith, length-drop i ss)) (omega (arith, length-drop i ts))

-- ---- equal places
pub both_equal : (a b : Ordering) → ordering_then a b ≡ Equal → (a ≡ Equal) × (b ≡ Equal)
both_equal Less b e = absurd (cc)
both_equal Equal b e = (refl, e)
both_equal Greater b e = absurd (cc)

equal_numbers : (m n : ℕ) → nat_cmp m n ≡ Equal → m ≡ n
equal_numbers m n e = ranked m n Equal (sym e)

equal_name : (n : Text) (t : Step) → name_order n t ≡ Equal → n ≡ token t
equal_name n (Name m) e = tied n m.now e
equal_name n (Index j) e = absurd (cc)
equal_name n (Keyword k) e = tied n (row_of k).name e

equal_index : (i : ℕ) (t : Step) → index_order i t ≡ Equal → decimal i ≡ token t
equal_index i (Name m) e = absurd (cc)
equal_index i (Index j) e = ap decimal (equal_numbers i j e)
equal_index i (Keyword k) e = absurd (cc)

equal_step : (s t : Step) → step_order s t ≡ Equal → token s ≡ token t
equal_step (Name n) t e = equal_name n.now t e
equal_step (Index i) t e = equal_index i t e
equal_step (Keyword k) t e = equal_name (row_of k).name t e

pub equal_steps : (ss ts : List Step) → steps_order ss ts ≡ Equal → tokens ss ≡ tokens ts
equal_steps [] [] e = refl
equal_steps [] (t ∷ ts) e = absurd (cc)
equal_steps (s ∷ ss) [] e = absurd (cc)
equal_steps (s ∷ ss) (t ∷ ts) e =
    let both = both_equal (step_order s t) (steps_order ss ts) e in
    ap₂ (λ x xs. x ∷ xs) (equal_step s t both.0) (equal_steps ss ts both.1)
