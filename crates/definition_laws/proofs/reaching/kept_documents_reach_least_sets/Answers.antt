use Rattle.definition_laws.proofs.KeptReaches.{kept_reach_is_least}
use Rattle.definition_laws.proofs.reaching.kept_documents_reach_least_sets.Goals as goal

pub returns : goal.returns
returns c = kept_reach_is_least
