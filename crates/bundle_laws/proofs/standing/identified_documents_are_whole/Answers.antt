use Rattle.bundle_laws.proofs.RegisteredDocuments.{identified_documents_are_whole}
use Rattle.bundle_laws.proofs.standing.identified_documents_are_whole.Goals as goal

pub returns : goal.returns
returns c = identified_documents_are_whole
