use Rattle.std.proofs.Common.{◌≡◌, ◌++◌, ◌-◌, true, drop}
use denote.Text.{Utf8}
use denote.Shadow.{shadow}
use Rattle.locations.specs.Hops.{step_hops}
use Rattle.locations.specs.OwnedSteps.{are_cut, hops_along}
use Rattle.locations.specs.Ways.{owned_hops}
use Rattle.locations.proofs.ways.steps_after.Given as goal

abbrev pub invariant-loop-index : goal.invariant-loop-index
invariant-loop-index l = record {
  utf8 : shadow (Utf8 l.names);
  cut : are_cut (drop l.index l.fn.way.steps.items) l.names ≡ true;
  taken : step_hops l.steps.items ++ drop (l.fn.start - l.index) (hops_along (drop l.index l.fn.way.steps.items) l.names) ≡ drop l.fn.start (owned_hops l.fn.way);
}
