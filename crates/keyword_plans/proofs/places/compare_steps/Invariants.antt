use Rattle.std.proofs.Common.{◌≡◌, drop}
use Rattle.keyword_plans.specs.Places.{steps_order}
use Rattle.keyword_plans.proofs.places.compare_steps.Given as goal

-- what is left decides
abbrev pub invariant-loop-index : goal.invariant-loop-index
invariant-loop-index l = steps_order l.first l.second ≡ steps_order (drop l.index l.first) (drop l.index l.second)
