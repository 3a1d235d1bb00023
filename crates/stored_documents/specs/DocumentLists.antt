-- What a tenant's documents mean.
use Rattle.std.specs.Prelude.{List}
use Rattle.definitions.specs.Schemas.{Document}
use Rattle.stored_documents.specs.OrderedDocuments.{ordered_documents}
use Rattle.stored_documents.specs.declared.documents.Documents.{Documents}

unfoldable pub documents_in : Documents → List Document
documents_in d = ordered_documents d.ordered
