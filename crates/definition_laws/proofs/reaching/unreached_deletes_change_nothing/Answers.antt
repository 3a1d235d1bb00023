use Rattle.definition_laws.proofs.KeptReaches.{unreached_delete}
use Rattle.definition_laws.proofs.reaching.unreached_deletes_change_nothing.Goals as goal

pub returns : goal.returns
returns c = unreached_delete
