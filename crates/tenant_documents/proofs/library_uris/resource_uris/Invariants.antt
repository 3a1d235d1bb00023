use Rattle.std.proofs.Common.{◌≡◌, Bor, map, take, true}
use Rattle.std.specs.List.{list_all}
use Rattle.definitions.specs.Documents.{is_faultless, resource_uris_of}
use Rattle.definitions.specs.Values.{Text}
use Rattle.linker.specs.SharedDocuments.{shared_documents}
use Rattle.tenant_documents.proofs.library_uris.resource_uris.Given as goal

abbrev pub invariant-loop-document : goal.invariant-loop-document
invariant-loop-document l = record {
  uris : map (λ (t : Bor Text). t.now) l.uris.items ≡ resource_uris_of (shared_documents (take l.document-index l.documents));
  faultless : list_all is_faultless (shared_documents (take l.document-index l.documents)) ≡ true;
}
