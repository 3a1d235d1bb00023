use Rattle.std.proofs.Common.{◌≡◌, take, []}
use Rattle.definitions.specs.Documents.{documents_with_all}
use Rattle.linker.specs.ListedDocuments.{listed_documents}
use Rattle.linker.specs.SharedDocuments.{shared_documents}
use Rattle.tenant_documents.proofs.library.listed.Given as goal

abbrev pub invariant-loop-document : goal.invariant-loop-document
invariant-loop-document l = listed_documents l.library ≡ documents_with_all (shared_documents (take l.document-index l.documents)) []
