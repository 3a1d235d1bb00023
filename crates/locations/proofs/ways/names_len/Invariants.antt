use Rattle.std.proofs.Common.{◌≡◌, length, take}
use Rattle.locations.specs.Ways.{step_names}
use Rattle.locations.proofs.ways.names_len.Given as goal

abbrev pub invariant-loop-step : goal.invariant-loop-step
invariant-loop-step l = l.len ≡ length (step_names (take l.step-index l.steps))
