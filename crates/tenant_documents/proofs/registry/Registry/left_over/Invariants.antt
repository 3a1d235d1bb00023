use Rattle.std.proofs.Common.{◌≡◌, ◌+◌, take, length}
use Rattle.definitions.specs.Documents.{bytes_of}
use Rattle.stored_documents.specs.SharedStored.{stored_documents}
use Rattle.tenant_documents.specs.HeldBeside.{replaced_by}
use Rattle.tenant_documents.specs.Registries.{registry_view}
use Rattle.tenant_documents.proofs.registry.Registry.left_over.Given as goal

abbrev pub invariant-loop-document : goal.invariant-loop-document
invariant-loop-document l = record {
  count : l.count + length (replaced_by (stored_documents (take l.document-index l.documents)) (registry_view l.self).documents) ≡ length (registry_view l.self).documents;
  bytes : l.bytes + bytes_of (replaced_by (stored_documents (take l.document-index l.documents)) (registry_view l.self).documents) ≡ bytes_of (registry_view l.self).documents;
}
