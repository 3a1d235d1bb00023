use Rattle.definition_laws.proofs.SeenDocuments.{deletes}
use Rattle.definition_laws.proofs.libraries.deletes_commute.Goals as goal

pub returns : goal.returns
returns c = deletes
