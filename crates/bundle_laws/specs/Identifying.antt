-- What the canonical URIs of documents are like (RFC 3986, 4.3; JSON Schema 2020-12 Core, 8.2.1).
use Rattle.std.specs.Prelude.{◌≡◌, None, IsTrue}
use Rattle.std.specs.Str.{is_utf8}
use Rattle.definitions.specs.Values.{Text, Value}
use Rattle.definitions.specs.Uris.{split, is_identifier}
use Rattle.definitions.specs.Schemas.{document_from}
use Rattle.definitions.specs.Scanning.{scan_fault}
use Rattle.definition_laws.specs.Bundling.{IsAbsolute}
use Rattle.definition_laws.specs.Identities.{IsDefinite}
use Rattle.definition_laws.specs.Keeping.{IsBaseForm}

abbrev pub IsIdentifierText : Text → Type 0
IsIdentifierText uri = IsTrue (is_identifier (split uri))

-- an identifier resolves to itself whatever the base, and has no fragment
abbrev pub IdentifiersAreAbsolute : Type 0
IdentifiersAreAbsolute = (uri : Text) → IsIdentifierText uri → IsAbsolute uri

-- the canonical URI of a document without a fault is an identifier
abbrev pub CanonicalUrisAreIdentifiers : Type 0
CanonicalUrisAreIdentifiers = (base : Text) (v : Value) → IsBaseForm base → scan_fault base v ≡ None → IsIdentifierText (document_from base v).canonical

-- and in UTF-8, where the base and the value's texts are
abbrev pub CanonicalUrisAreTexts : Type 0
CanonicalUrisAreTexts = (base : Text) (v : Value) → IsTrue (is_utf8 base) → IsDefinite v → IsTrue (is_utf8 (document_from base v).canonical)
