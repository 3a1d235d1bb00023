use Rattle.std.proofs.Common.{◌≡◌, take, false}
use Rattle.std.specs.List.{list_any}
use Rattle.definitions.specs.Registries.{is_in_library}
use Rattle.stored_documents.specs.SharedStored.{stored_documents}
use Rattle.tenant_documents.specs.Registries.{registry_view}
use Rattle.tenant_documents.proofs.registry.Registry.owns_any.Given as goal

abbrev pub invariant-loop-document : goal.invariant-loop-document
invariant-loop-document l = list_any (λ d. is_in_library (registry_view l.self) d.canonical) (stored_documents (take l.document-index l.documents)) ≡ false
