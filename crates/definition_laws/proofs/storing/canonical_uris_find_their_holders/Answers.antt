use Rattle.definition_laws.proofs.StoredDocuments.{canonical_holder}
use Rattle.definition_laws.proofs.storing.canonical_uris_find_their_holders.Goals as goal

pub returns : goal.returns
returns c = canonical_holder
