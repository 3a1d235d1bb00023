use Rattle.bundle_laws.proofs.BaseTexts.{reached_documents_are_registered}
use Rattle.bundle_laws.proofs.registered.reached_documents_are_registered.Goals as goal

pub returns : goal.returns
returns c = reached_documents_are_registered
