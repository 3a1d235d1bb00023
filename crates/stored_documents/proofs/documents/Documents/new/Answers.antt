use Rattle.stored_documents.specs.DocumentLists.{documents_in}
use Rattle.stored_documents.specs.OrderedDocuments.{ordered_documents}
use Rattle.stored_documents.proofs.ClaimedDocuments.{none_claimed}
use Rattle.stored_documents.proofs.FreshClaims.{fresh_yet}
use Rattle.stored_documents.proofs.documents.Documents.new.Goals as goal

pub invariant_of-result : goal.invariant_of-result
invariant_of-result c = record { claimed = none_claimed c.new-2.result (ordered_documents c.new.result) c.new.ensures }

pub returns : goal.returns
unfolding documents_in
returns c = record { none = c.new.ensures; fresh = fresh_yet _ c.new-2.ensures.empty }
