use Rattle.definition_laws.proofs.ReachedSets.{reach_is_least}
use Rattle.definition_laws.proofs.reaching.reached_sets_are_least.Goals as goal

pub returns : goal.returns
returns c = reach_is_least
