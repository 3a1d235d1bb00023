use Rattle.definition_laws.proofs.Steps.{quotas_stay}
use Rattle.definition_laws.proofs.keeping.quotas_stay.Goals as goal

pub returns : goal.returns
returns c = quotas_stay
