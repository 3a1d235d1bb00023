-- What documents in order mean.
use Rattle.std.specs.Prelude.{List}
use Rattle.definitions.specs.Schemas.{Document}
use Rattle.stored_documents.specs.SharedStored.{stored_documents}
use Rattle.stored_documents.specs.declared.ordered.OrderedDocuments.{OrderedDocuments}

unfoldable pub ordered_documents : OrderedDocuments → List Document
ordered_documents d = stored_documents d.stored.items
