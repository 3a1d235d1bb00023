use Rattle.definition_laws.proofs.StoredDocuments.{kept_sound}
use Rattle.definition_laws.proofs.storing.kept_documents_are_sound.Goals as goal

pub returns : goal.returns
returns c = kept_sound
