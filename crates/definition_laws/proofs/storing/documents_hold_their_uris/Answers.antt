use Rattle.definition_laws.proofs.StoredDocuments.{holds_itself}
use Rattle.definition_laws.proofs.storing.documents_hold_their_uris.Goals as goal

pub returns : goal.returns
returns c = holds_itself
