use Rattle.std.proofs.Common.{take}
use Rattle.stored_documents.specs.StoredDocuments.{stored_view}
use Rattle.tenants_file.specs.Entries.{entry_view}
use Rattle.tenant_documents.proofs.EnteredDocuments.{IsEnteredAs}
use Rattle.tenant_documents.proofs.batch_entries.entered.Given as goal

abbrev pub invariant-loop-number : goal.invariant-loop-number
invariant-loop-number l = IsEnteredAs entry_view (λ s. stored_view s.value) (take l.number l.entries) l.documents.items
