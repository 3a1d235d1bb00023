use Rattle.definition_laws.proofs.QuotaSums.{add_up}
use Rattle.definition_laws.proofs.quotas.quotas_add_up.Goals as goal

pub returns : goal.returns
returns c = add_up
