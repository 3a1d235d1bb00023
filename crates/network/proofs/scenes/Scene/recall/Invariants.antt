use Rattle.network.specs.Scenes.{Stays}
use Rattle.network.proofs.scenes.Scene.recall.Given as goal

abbrev pub invariant-loop : goal.invariant-loop
invariant-loop l = record { stays : Stays l.fn.self l.self }
