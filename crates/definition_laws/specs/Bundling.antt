-- What a bundle keeps of the documents that it is made of (JSON Schema 2020-12 Core, 9.3).
use Rattle.std.specs.Prelude.{◌≡◌, ◌↔◌, List, [], ◌∷◌, Bool, true, false, Ok, IsTrue, Contains, flat_map}
use Rattle.std.specs.Str.{is_utf8}
use Rattle.definitions.specs.Values.{Text, Value, is_object, same_text}
use Rattle.definitions.specs.Lists.{has_repeat}
use Rattle.definitions.specs.Uris.{without_fragment}
use Rattle.definitions.specs.Resolution.{target_uri}
use Rattle.definitions.specs.Schemas.{Document, document_from, schemas_of, table_of}
use Rattle.definitions.specs.Scanning.{anchors_of, same_anchor, resource_uris}
use Rattle.definitions.specs.Answers.{answer}
use Rattle.definitions.specs.Reach.{missing_references}
use Rattle.definitions.specs.Bundles.{bundle}
use Rattle.definitions.specs.Documents.{resource_uris_of}
use Rattle.definitions.specs.Alike.{IsAlike}
use Rattle.definition_laws.specs.Identities.{IsDefinite}

-- resolved against whatever base it is itself, and has no fragment
abbrev pub IsAbsolute : Text → Type 0
IsAbsolute uri = (base : Text) → without_fragment (target_uri base uri) ≡ uri

-- documents as a registry keeps them, under URIs that don't hang on where they stand, with no reference missing
pub record AreWhole (ds : List Document) : Type 0 where
  pub distinct : has_repeat same_text (resource_uris_of ds) ≡ false
  pub anchors : (d : Document) → Contains ds d → has_repeat same_anchor (flat_map anchors_of (schemas_of d.base d.value)) ≡ false
  pub named : (d : Document) → Contains ds d → d ≡ document_from d.base d.value
  pub objects : (d : Document) → Contains ds d → is_object d.value ≡ true
  pub values : (d : Document) → Contains ds d → IsDefinite d.value
  pub texts : (d : Document) → Contains ds d → IsTrue (is_utf8 d.canonical)
  pub absolute : (d : Document) → Contains ds d → IsAbsolute d.canonical
  pub linked : missing_references ds ≡ []

-- under any base, the bundle is stored under the URI that it was asked by
abbrev pub BundlesKeepTheirUri : Type 0
BundlesKeepTheirUri =
    (ds : List Document) (uri base : Text) (v : Value) → AreWhole ds → bundle ds uri ≡ Ok v → (document_from base v).canonical ≡ uri

-- its resources have the URIs of theirs
abbrev pub BundlesKeepTheResources : Type 0
BundlesKeepTheResources =
    (ds : List Document) (uri base : Text) (v : Value) → AreWhole ds → bundle ds uri ≡ Ok v →
    (u : Text) → Contains (resource_uris (table_of (document_from base v ∷ []))) u ↔ Contains (resource_uris (table_of ds)) u

-- its names stand once, and so do its places' texts
abbrev pub BundlesAreDefinite : Type 0
BundlesAreDefinite = (ds : List Document) (uri : Text) (v : Value) → AreWhole ds → bundle ds uri ≡ Ok v → IsDefinite v

-- its table is alike to theirs
abbrev pub BundlesAreAlike : Type 0
BundlesAreAlike =
    (ds : List Document) (uri base : Text) (v : Value) → AreWhole ds → bundle ds uri ≡ Ok v →
    IsAlike (table_of ds) (table_of (document_from base v ∷ []))

-- and the bundle alone answers as they do
abbrev pub BundlesAnswerTheSame : Type 0
BundlesAnswerTheSame =
    (matches : Text → Text → Bool) (ds : List Document) (uri base : Text) (v x : Value) → AreWhole ds → bundle ds uri ≡ Ok v →
    answer matches (document_from base v ∷ []) uri x ≡ answer matches ds uri x
