use Rattle.definition_laws.proofs.LeastTexts.{least_is_least}
use Rattle.definition_laws.proofs.linking.least_is_least.Goals as goal

pub returns : goal.returns
returns c = least_is_least
