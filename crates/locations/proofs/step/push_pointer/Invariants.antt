use Rattle.std.proofs.Common.{◌≡◌, ◌++◌, take, string_bytes}
use Rattle.definitions.specs.Pointers.{pointer_text}
use Rattle.locations.specs.Steps.{tokens}
use Rattle.locations.proofs.step.push_pointer.Given as goal

abbrev pub invariant-loop-step : goal.invariant-loop-step
invariant-loop-step l = string_bytes l.text ≡ string_bytes l.initial.text ++ pointer_text (tokens (take l.step-index l.steps))
