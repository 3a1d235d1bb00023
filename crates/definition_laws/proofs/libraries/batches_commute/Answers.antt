use Rattle.definition_laws.proofs.SeenDocuments.{batches}
use Rattle.definition_laws.proofs.libraries.batches_commute.Goals as goal

pub returns : goal.returns
returns c = batches
