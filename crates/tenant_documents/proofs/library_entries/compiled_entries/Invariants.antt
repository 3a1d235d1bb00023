use Rattle.std.proofs.Common.{take}
use Rattle.schema_scan.specs.CompiledDocuments.{compiled_view}
use Rattle.tenants_file.specs.Entries.{entry_view}
use Rattle.tenant_documents.proofs.EnteredDocuments.{IsEnteredAs}
use Rattle.tenant_documents.proofs.library_entries.compiled_entries.Given as goal

abbrev pub invariant-loop-entry : goal.invariant-loop-entry
invariant-loop-entry l = IsEnteredAs entry_view (λ c. compiled_view c.value) (take l.entry-index l.entries) l.documents.items
