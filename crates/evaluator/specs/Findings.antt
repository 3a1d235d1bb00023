-- What the code's numbers say of what keywords applied.
use Rattle.std.specs.Prelude.{◌≡◌, ℕ, List, [], ◌∷◌, Option, Some, None, length}
use Rattle.definitions.specs.Applied.{Outcome, Part}
use Rattle.definitions.specs.Evaluated.{pass_count}
use Rattle.definitions.specs.Outcomes.{Use}
use Rattle.evaluator.specs.declared.applied.Applied.{Applied}

-- ---- the outcomes of what one keyword applied
abbrev pub Outcomes : Type 0
Outcomes = List (Part × Outcome)

pub record FindsAll (a : Applied) (os : Outcomes) : Type 0 where
  pub number : a.number ≡ length os
  pub passing : a.passing ≡ pass_count os

-- ---- the uses of keywords
-- how many schemas passed that the first of these applied
abbrev pub passing_first : List Use → Option ℕ
passing_first [] = None
passing_first (u ∷ us) = Some (pass_count u.outcomes)
