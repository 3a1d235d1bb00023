use Rattle.definition_laws.proofs.LeastTexts.{missing_name_nothing}
use Rattle.definition_laws.proofs.linking.missing_name_nothing.Goals as goal

pub returns : goal.returns
returns c = missing_name_nothing
