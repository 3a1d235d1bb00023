use Rattle.stored_documents.specs.KeptDocuments.{kept_documents}
use Rattle.stored_documents.proofs.documents.Documents.kept.Goals as goal

pub returns : goal.returns
returns c = kept_documents c.args.self.now
