use Rattle.std.proofs.Common.{◌≡◌, map, take}
use Rattle.requests.specs.Views.{stored_entry_view}
use Rattle.stored_documents.specs.StoredDocuments.{stored_view}
use Rattle.tenant_documents.specs.Batches.{stored_reply}
use Rattle.tenant_documents.specs.Registries.{registry_view}
use Rattle.tenant_documents.proofs.registry.Registry.stored_replies.Given as goal

abbrev pub invariant-loop-document : goal.invariant-loop-document
invariant-loop-document l =
    map stored_entry_view l.replies.items ≡ map (λ s. stored_reply (registry_view l.self) (stored_view s.value)) (take l.document-index l.documents)
