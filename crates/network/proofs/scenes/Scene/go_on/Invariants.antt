use Rattle.network.specs.Scenes.{Stays}
use Rattle.network.proofs.scenes.Scene.go_on.Given as goal

abbrev pub invariant-loop-index : goal.invariant-loop-index
invariant-loop-index l = record { stays : Stays l.fn.self l.self }
