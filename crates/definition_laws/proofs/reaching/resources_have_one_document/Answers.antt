use Rattle.definition_laws.proofs.Resources.{one_document}
use Rattle.definition_laws.proofs.reaching.resources_have_one_document.Goals as goal

pub returns : goal.returns
returns c = one_document
