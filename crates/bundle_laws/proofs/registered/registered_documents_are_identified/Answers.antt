use Rattle.bundle_laws.proofs.RegisteredDocuments.{registered_documents_are_identified}
use Rattle.bundle_laws.proofs.registered.registered_documents_are_identified.Goals as goal

pub returns : goal.returns
returns c = registered_documents_are_identified
