use Rattle.definition_laws.proofs.KeptReaches.{same_reached_agree}
use Rattle.definition_laws.proofs.reaching.same_reached_sets_agree.Goals as goal

pub returns : goal.returns
returns c = same_reached_agree
