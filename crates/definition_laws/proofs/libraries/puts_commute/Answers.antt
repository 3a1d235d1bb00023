use Rattle.definition_laws.proofs.SeenDocuments.{puts}
use Rattle.definition_laws.proofs.libraries.puts_commute.Goals as goal

pub returns : goal.returns
returns c = puts
