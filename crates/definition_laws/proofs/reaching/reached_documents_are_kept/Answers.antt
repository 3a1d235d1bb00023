use Rattle.definition_laws.proofs.KeptReaches.{reached_kept}
use Rattle.definition_laws.proofs.reaching.reached_documents_are_kept.Goals as goal

pub returns : goal.returns
returns c = reached_kept
