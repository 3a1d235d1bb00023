-- What a schema's absolute location names (JSON Schema 2020-12 Core, 8.2.3 and 12.3.2; RFC 6901, section 6).
use Rattle.std.specs.Prelude.{◌≡◌, List, ◌∷◌, ◌++◌, Some, Contains}
use Rattle.definitions.specs.Bytes.{number_sign}
use Rattle.definitions.specs.Pointers.{fragment_text}
use Rattle.definitions.specs.Uris.{without_fragment}
use Rattle.definitions.specs.Schemas.{Schema, Document, table_of}
use Rattle.definitions.specs.Targets.{target}
use Rattle.definition_laws.specs.Identities.{IsDistinct}

-- the URI of the resource, where it has no fragment itself, and the pointer as a fragment
abbrev pub LocationsNameSchemas : Type 0
LocationsNameSchemas =
    (ds : List Document) → IsDistinct ds →
    (s : Schema) → Contains (table_of ds) s → without_fragment s.resource ≡ s.resource →
    target (table_of ds) (s.resource ++ (number_sign ∷ fragment_text s.pointer)) ≡ Some s
