-- A bundle stands alone, in place of the documents that it is made of (JSON Schema 2020-12 Core, 9.3).
use Rattle.std.specs.Prelude.{List, Contains}
use Rattle.definitions.specs.Values.{Text, Value}
use Rattle.definitions.specs.Patterns.{regular_search}
use Rattle.definitions.specs.Schemas.{Document}
use Rattle.linker.specs.LinkedDocuments.{linked_uri, linked_documents}
use Rattle.linker.specs.declared.linked.Linked.{Linked}
use Rattle.bundle_laws.specs.Identifying.{IsIdentifierText}
use Rattle.bundle_laws.specs.Standing.{StandsAlone}

abbrev pub HaveIdentifiers : List Document → Type 0
HaveIdentifiers ds = (d : Document) → Contains ds d → IsIdentifierText d.canonical

-- under whatever base it stands
unfoldable pub AnswersAlone : Linked → Value → Type 0
AnswersAlone l v = HaveIdentifiers (linked_documents l) → (base : Text) → StandsAlone regular_search (linked_documents l) (linked_uri l) base v
