use Rattle.definition_laws.proofs.StoredDocuments.{one_holder}
use Rattle.definition_laws.proofs.storing.holders_are_unique.Goals as goal

pub returns : goal.returns
returns c = one_holder
