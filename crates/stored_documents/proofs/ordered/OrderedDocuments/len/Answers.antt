use Rattle.std.proofs.Common.{length, ap, arith}
use Rattle.stored_documents.specs.OrderedDocuments.{ordered_documents}
use Rattle.stored_documents.proofs.StandingDocuments.{stored_as_long}
use Rattle.stored_documents.proofs.ordered.OrderedDocuments.len.Goals as goal

pub returns : goal.returns
unfolding ordered_documents
returns c = omega (arith, stored_as_long c.args.self.now.stored.items, ap length c.as_slice.ensures.value)
