-- A tenant's registry as the definitions have it.
use Rattle.std.specs.Prelude.{ℕ, []}
use Rattle.definitions.specs.Registries as meaning
use Rattle.definitions.specs.Tenants.{Tenant}
use Rattle.linker.specs.ListedDocuments.{listed_documents}
use Rattle.stored_documents.specs.DocumentLists.{documents_in}
use Rattle.tenant_documents.specs.declared.registry.Registry.{Registry}

unfoldable pub registry_view : Registry → meaning.Registry
registry_view r = record {
  documents = documents_in r.documents;
  library = listed_documents r.library.value;
  most_documents = r.most_documents;
  most_bytes = r.most_bytes;
}

-- a tenant with these, whatever its key
abbrev pub quotas : ℕ → ℕ → Tenant
quotas most_documents most_bytes = record { key = []; most_documents = most_documents; most_bytes = most_bytes }
