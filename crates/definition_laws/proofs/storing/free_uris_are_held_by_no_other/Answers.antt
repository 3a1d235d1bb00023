use Rattle.definition_laws.proofs.StoredDocuments.{free_is_unheld}
use Rattle.definition_laws.proofs.storing.free_uris_are_held_by_no_other.Goals as goal

pub returns : goal.returns
returns c = free_is_unheld
