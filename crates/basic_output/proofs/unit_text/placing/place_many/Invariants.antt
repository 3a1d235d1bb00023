use Rattle.std.proofs.Common.{◌+◌, ◌-◌, ◌≤◌, length, take}
use Rattle.json.specs.Filled.{Placed}
use Rattle.basic_output.proofs.unit_text.placing.place_many.Given as goal

abbrev pub invariant-loop-done : goal.invariant-loop-done
invariant-loop-done l = (l.done + 32 ≤ length l.from) × Placed l.fn.bytes l.bytes l.start (take l.done l.from) (l.start + l.done)

abbrev pub decreases-loop-done : goal.decreases-loop-done
decreases-loop-done l = length l.from - l.done
