-- The documents that a list source holds.
use Rattle.std.specs.Prelude.{List}
use Rattle.definitions.specs.Schemas.{Document}
use Rattle.linker.specs.SharedDocuments.{shared_documents}
use Rattle.linker.specs.declared.list_source.ListSource.{ListSource}

abbrev pub listed_documents : ListSource → List Document
listed_documents s = shared_documents s.documents.items
