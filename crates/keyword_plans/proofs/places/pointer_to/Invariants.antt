use Rattle.std.proofs.Common.{◌≡◌, take}
use Rattle.locations.specs.Steps.{tokens}
use Rattle.keyword_plans.proofs.places.pointer_to.Given as goal

abbrev pub invariant-loop-step : goal.invariant-loop-step
invariant-loop-step l = l.pointer ≡ tokens (take l.step-index l.steps)
