use Rattle.stored_documents.specs.KeptDocuments.{kept_ordered}
use Rattle.stored_documents.proofs.ordered.OrderedDocuments.kept.Goals as goal

pub returns : goal.returns
returns c = kept_ordered c.args.self.now
