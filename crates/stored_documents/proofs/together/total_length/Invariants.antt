use Rattle.std.proofs.Common.{◌≡◌, take}
use Rattle.definitions.specs.Documents.{bytes_of}
use Rattle.stored_documents.specs.SharedStored.{stored_documents}
use Rattle.stored_documents.proofs.together.total_length.Given as goal

abbrev pub invariant-loop-document : goal.invariant-loop-document
invariant-loop-document l = l.total ≡ bytes_of (stored_documents (take l.document-index l.documents))
