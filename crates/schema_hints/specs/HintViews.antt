-- The schemas that were found in a document, and the warnings of their members.
use Rattle.std.specs.Prelude.{◌≡◌, List, Contains, string_bytes}
use Rattle.std.specs.List.{All}
use Rattle.definitions.specs.Values.{Text, Value, object, members}
use Rattle.json_doc.specs.Docs.{members_view}
use Rattle.schema_hints.specs.SchemaPlaces.{IsSchemaAt, extended}
use Rattle.schema_hints.specs.declared.hint.Hint.{Hint}
use Rattle.schema_hints.specs.declared.schemas.SchemaPlace.{SchemaPlace}

-- each place is that of a schema of the document
abbrev pub AreSchemas : Value → List SchemaPlace → Type 0
AreSchemas document = All (λ p. IsSchemaAt document (string_bytes p.location) (object (members_view p.members.now)))

-- the name is one of a schema's members, and stands there
abbrev pub IsOfSchema : Value → Text → Text → Type 0
IsOfSchema document name location =
    (above : Text) × (v w : Value) × IsSchemaAt document above v × Contains (members v) (name, w) × (location ≡ extended above name)

abbrev pub AreOfSchemas : Value → List Hint → Type 0
AreOfSchemas document = All (λ h. IsOfSchema document (string_bytes h.name) (string_bytes h.location))
