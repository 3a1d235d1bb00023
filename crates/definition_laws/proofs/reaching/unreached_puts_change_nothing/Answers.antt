use Rattle.definition_laws.proofs.KeptReaches.{unreached_put}
use Rattle.definition_laws.proofs.reaching.unreached_puts_change_nothing.Goals as goal

pub returns : goal.returns
returns c = unreached_put
