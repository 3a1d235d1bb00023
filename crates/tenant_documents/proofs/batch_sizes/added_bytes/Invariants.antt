use Rattle.std.proofs.Common.{take}
use Rattle.definitions.specs.Documents.{bytes_of}
use Rattle.stored_documents.specs.SharedStored.{stored_documents}
use Rattle.tenant_documents.specs.Puts.{IsSum}
use Rattle.tenant_documents.proofs.batch_sizes.added_bytes.Given as goal

abbrev pub invariant-loop-document : goal.invariant-loop-document
invariant-loop-document l = IsSum l.total (bytes_of (stored_documents (take l.document-index l.documents)))
