-- Documents of several resources, which are found by the URIs of these.
use Rattle.std.specs.Prelude.{List}
use Rattle.definitions.specs.Schemas.{Document}
use Rattle.linker.specs.SharedDocuments.{shared_documents}
use Rattle.linker.specs.declared.compound_documents.CompoundDocuments.{CompoundDocuments}

unfoldable pub compound_documents : CompoundDocuments → List Document
compound_documents c = shared_documents c.documents.items
