use Rattle.definition_laws.proofs.StoredDocuments.{found_by_uri}
use Rattle.definition_laws.proofs.storing.documents_are_found_by_their_uris.Goals as goal

pub returns : goal.returns
returns c = found_by_uri
