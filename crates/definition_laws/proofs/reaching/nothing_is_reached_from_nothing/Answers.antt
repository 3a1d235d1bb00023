use Rattle.definition_laws.proofs.ReachedSets.{nothing_from_nothing_held}
use Rattle.definition_laws.proofs.reaching.nothing_is_reached_from_nothing.Goals as goal

pub returns : goal.returns
returns c = nothing_from_nothing_held
