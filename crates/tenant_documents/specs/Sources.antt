-- The documents of a tenant's source.
use Rattle.std.specs.Prelude.{List}
use Rattle.definitions.specs.Documents.{AreSound}
use Rattle.definitions.specs.Patterns.{regular_search}
use Rattle.definitions.specs.Schemas.{Document}
use Rattle.definition_laws.proofs.StoredDocuments.{kept_sound}
use Rattle.stored_documents.specs.DocumentLists.{documents_in}
use Rattle.stored_documents.specs.KeptDocuments.{kept_documents}
use Rattle.tenant_documents.specs.declared.tenant_source.TenantSource.{TenantSource}

abbrev pub source_documents : TenantSource → List Document
source_documents s = documents_in s.documents.now

pub source_sound : (s : TenantSource) → AreSound (source_documents s)
source_sound s = kept_sound regular_search (documents_in s.documents.now) (kept_documents s.documents.now)
