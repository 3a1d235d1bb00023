use Rattle.std.proofs.Common.{refl}
use Rattle.std.specs.List.Sorted.{IsStrictlySortedBy}
use Rattle.stored_documents.specs.SharedStored.{stored_documents}
use Rattle.stored_documents.proofs.ordered.OrderedDocuments.new.Goals as goal

pub invariant_of-result : goal.invariant_of-result
unfolding IsStrictlySortedBy stored_documents
invariant_of-result c = rw c.new.ensures.items (record { ascend = tt; distinct = refl; measured = refl })
