-- That the schemas of kept documents can be told apart by URI and pointer, whatever was put before.
use Rattle.std.specs.Prelude.{List}
use Rattle.definitions.specs.Values.{Text}
use Rattle.definitions.specs.Schemas.{Document}
use Rattle.definitions.specs.Reach.{reach}
use Rattle.definitions.specs.Searches.{Search}
use Rattle.definitions.specs.Keeping.{AreKept}
use Rattle.definition_laws.specs.Identities.{IsDistinct}
use Rattle.definition_laws.specs.Keeping.{HaveBodyValues}

-- kept documents that are values of bodies have distinct resource URIs and definite values
abbrev pub KeptDocumentsAreDistinct : Type 0
KeptDocumentsAreDistinct = (search : Search) (ds : List Document) → AreKept search ds → HaveBodyValues ds → IsDistinct ds

-- and so have those that a URI reaches
abbrev pub ReachedDocumentsAreDistinct : Type 0
ReachedDocumentsAreDistinct =
    (search : Search) (ds : List Document) (uri : Text) → AreKept search ds → HaveBodyValues ds → IsDistinct (reach ds uri)
