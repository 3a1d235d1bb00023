use Rattle.std.proofs.Common.{◌≡◌, ◌++◌, vec_len}
use Rattle.schema_table.specs.Refusals.{way_up}
use Rattle.schema_table.proofs.refusal.text_up.Given as goal

abbrev pub invariant-loop-step : goal.invariant-loop-step
invariant-loop-step l = way_up l.fn.steps.items ≡ l.pointer ++ way_up l.steps.items

abbrev pub decreases-loop-step : goal.decreases-loop-step
decreases-loop-step l = vec_len l.steps
