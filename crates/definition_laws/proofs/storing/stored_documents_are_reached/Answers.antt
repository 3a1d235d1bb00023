use Rattle.definition_laws.proofs.StoredDocuments.{reaches_itself}
use Rattle.definition_laws.proofs.storing.stored_documents_are_reached.Goals as goal

pub returns : goal.returns
returns c = reaches_itself
