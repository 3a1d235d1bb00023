use Rattle.std.proofs.Common.{◌≡◌, Contains, take}
use Rattle.definitions.specs.Schemas.{Document}
use Rattle.stored_documents.specs.DocumentLists.{documents_in}
use Rattle.stored_documents.specs.SharedStored.{stored_documents}
use Rattle.stored_documents.proofs.documents.Documents.standing.Given as goal

abbrev pub invariant-loop-document : goal.invariant-loop-document
invariant-loop-document l =
    (d e : Document) → Contains (documents_in l.self) d → Contains (stored_documents (take l.document-index l.documents)) e → e.canonical ≡ d.canonical → Contains (stored_documents l.standing.items) d
