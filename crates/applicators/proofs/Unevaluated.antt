-- Elements and members that no other keyword evaluated, one after another.
use Rattle.std.proofs.Common.{◌≡◌, ℕ, ◌+◌, List, [], ◌∷◌, ◌++◌, true, false, ◌==◌, refl, sym, ap, ◌∙◌}
use Rattle.std.specs.List.{list_any}
use Rattle.definitions.specs.Values.{Text, Value}
use Rattle.definitions.specs.Applied.{Application, named, indexed, at_part, has}
use Rattle.applicators.specs.Applications.{planned_unevaluated_items, planned_unevaluated_properties}

pub skipped : {Y : Type 0} (done left rest all : List Y) → left ≡ rest → done ++ left ≡ all → done ++ rest ≡ all
skipped done left rest all e so_far = ap (λ ys. done ++ ys) (sym e) ∙ so_far

module _ (k : Text) (a : Application) (v : Value) where
  pub item-new : (is : List ℕ) (i : ℕ) (x : Value) (xs : List Value) → list_any (λ j. j == i) is ≡ false
      → planned_unevaluated_items k a v is i (x ∷ xs) ≡ at_part a (k ∷ []) v (indexed i) x ∷ planned_unevaluated_items k a v is (i + 1) xs
  item-new is i x xs free = rw free refl

  pub item-old : (is : List ℕ) (i : ℕ) (x : Value) (xs : List Value) → list_any (λ j. j == i) is ≡ true
      → planned_unevaluated_items k a v is i (x ∷ xs) ≡ planned_unevaluated_items k a v is (i + 1) xs
  item-old is i x xs taken = rw taken refl

  pub member-new : (ns : List Text) (name : Text) (x : Value) (ms : List (Text × Value)) → has name ns ≡ false
      → planned_unevaluated_properties k a v ns ((name, x) ∷ ms) ≡ at_part a (k ∷ []) v (named name) x ∷ planned_unevaluated_properties k a v ns ms
  member-new ns name x ms free = rw free refl

  pub member-old : (ns : List Text) (name : Text) (x : Value) (ms : List (Text × Value)) → has name ns ≡ true
      → planned_unevaluated_properties k a v ns ((name, x) ∷ ms) ≡ planned_unevaluated_properties k a v ns ms
  member-old ns name x ms taken = rw taken refl
