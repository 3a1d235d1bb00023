use Rattle.std.proofs.Common.{◌≡◌, map, take, string_bytes}
use Rattle.linker.specs.SharedDocuments.{shared_documents}
use Rattle.definitions.specs.Documents.{canonicals}
use Rattle.linker.proofs.contents.canonical_uris.Given as goal

abbrev pub invariant-loop-document : goal.invariant-loop-document
invariant-loop-document l = map string_bytes l.uris.items ≡ canonicals (shared_documents (take l.document-index l.documents))
