use Rattle.std.proofs.Common.{◌≡◌, true, string_bytes, take}
use Rattle.locations.specs.Hops.{step_hops}
use Rattle.locations.specs.OwnedSteps.{are_cut, hops_along}
use Rattle.locations.proofs.ways.own.Given as goal

abbrev pub invariant-loop-step : goal.invariant-loop-step
invariant-loop-step l = record {
  cut : are_cut l.owned.items (string_bytes l.names) ≡ true;
  hops : hops_along l.owned.items (string_bytes l.names) ≡ step_hops (take l.step-index l.steps);
}
