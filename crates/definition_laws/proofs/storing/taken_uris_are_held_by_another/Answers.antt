use Rattle.definition_laws.proofs.StoredDocuments.{taken_is_held}
use Rattle.definition_laws.proofs.storing.taken_uris_are_held_by_another.Goals as goal

pub returns : goal.returns
returns c = taken_is_held
