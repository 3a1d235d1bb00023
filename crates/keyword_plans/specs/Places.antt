-- An order of the places of schemas.
use Rattle.std.specs.Prelude.{ℕ, List, [], ◌∷◌}
use Rattle.std.specs.Cmp.Lexicographic.{slice_cmp}
use Rattle.std.specs.Ordering.{nat_cmp, ordering_then}
use Rattle.std.specs.declared.cmp.Ordering.{Ordering}
use Rattle.std.specs.declared.cmp.Ordering.TheVariants.{Less, Equal, Greater}
use Rattle.definitions.specs.Values.{Text}
use Rattle.keywords.specs.Rows.{row_of}
use Rattle.locations.specs.declared.step.Step.{Step}
use Rattle.locations.specs.declared.step.Step.TheVariants.{Name, Index, Keyword}

-- names by their bytes, before indexes
abbrev pub name_order : Text → Step → Ordering
name_order n (Name m) = slice_cmp nat_cmp n m.now
name_order n (Index j) = Less
name_order n (Keyword k) = slice_cmp nat_cmp n (row_of k).name

abbrev pub index_order : ℕ → Step → Ordering
index_order i (Name m) = Greater
index_order i (Index j) = nat_cmp i j
index_order i (Keyword k) = Greater

abbrev pub step_order : Step → Step → Ordering
step_order (Name n) t = name_order n.now t
step_order (Index i) t = index_order i t
step_order (Keyword k) t = name_order (row_of k).name t

-- the first step that differs decides
abbrev pub steps_order : List Step → List Step → Ordering
steps_order [] [] = Equal
steps_order [] (t ∷ ts) = Less
steps_order (s ∷ ss) [] = Greater
steps_order (s ∷ ss) (t ∷ ts) = ordering_then (step_order s t) (steps_order ss ts)
