use Rattle.std.proofs.Common.{◌≡◌, Bor, map, take}
use Rattle.definitions.specs.Documents.{canonicals}
use Rattle.definitions.specs.Values.{Text}
use Rattle.stored_documents.specs.SharedStored.{stored_documents}
use Rattle.tenant_documents.proofs.batch_uris.canonical_uris.Given as goal

abbrev pub invariant-loop-document : goal.invariant-loop-document
invariant-loop-document l = map (λ (t : Bor Text). t.now) l.uris.items ≡ canonicals (stored_documents (take l.document-index l.documents))
