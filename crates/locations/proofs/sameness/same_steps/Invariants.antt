use Rattle.std.proofs.Common.{◌≡◌, drop}
use Rattle.definitions.specs.Pointers.{same_pointer}
use Rattle.locations.specs.Steps.{tokens}
use Rattle.locations.proofs.sameness.same_steps.Given as goal

-- what is left decides
abbrev pub invariant-loop-index : goal.invariant-loop-index
invariant-loop-index l =
    same_pointer (tokens l.first) (tokens l.second) ≡ same_pointer (tokens (drop l.index l.first)) (tokens (drop l.index l.second))
