-- A bundle of documents stands alone (JSON Schema 2020-12 Core, 9.3).
use Rattle.std.specs.Prelude.{◌≡◌, ◌↔◌, ◌<◌, ◌≤◌, List, [], ◌∷◌, Bool, false, Ok, None, IsTrue, Contains, length}
use Rattle.definitions.specs.Values.{Text, Value}
use Rattle.definitions.specs.Texts.{text}
use Rattle.definitions.specs.Resolution.{base_form}
use Rattle.definitions.specs.Schemas.{Document, document_from, table_of}
use Rattle.definitions.specs.Scanning.{scan_fault, resource_uris}
use Rattle.definitions.specs.Reach.{missing_references}
use Rattle.definitions.specs.Bundles.{bundle}
use Rattle.definitions.specs.Answers.{answer}
use Rattle.definitions.specs.Alike.{IsAlike}
use Rattle.definitions.specs.Registries.{put, stored}
use Rattle.definitions.specs.Searches.{Search, is_regular}
use Rattle.definitions.specs.Steps.{step}
use Rattle.definitions.specs.Tenants.{Tenant, empty_registry}
use Rattle.definition_laws.specs.Bundling.{AreWhole}
use Rattle.bundle_laws.specs.Registered.{AreIdentified}

-- a bundle of such documents, with no reference missing
pub record IsBundle (search : Search) (ds : List Document) (uri : Text) (v : Value) : Type 0 where
  pub documents : AreIdentified search ds
  pub linked : missing_references ds ≡ []
  pub made : bundle ds uri ≡ Ok v

-- so the documents are as a bundle wants them
abbrev pub IdentifiedDocumentsAreWhole : Type 0
IdentifiedDocumentsAreWhole = (search : Search) (ds : List Document) → AreIdentified search ds → missing_references ds ≡ [] → AreWhole ds

-- no schema in it has a fault, whatever it is put under
abbrev pub BundlesPassTheScan : Type 0
BundlesPassTheScan = (search : Search) (ds : List Document) (uri base : Text) (v : Value) → IsBundle search ds uri v → scan_fault base v ≡ None

abbrev pub BundlesAreRegular : Type 0
BundlesAreRegular = (search : Search) (ds : List Document) (uri : Text) (v : Value) → IsBundle search ds uri v → IsTrue (is_regular search v)

-- put into an empty registry that has room for it, and no library, it is stored under the URI that it was asked by
abbrev pub BundlesAreStored : Type 0
BundlesAreStored =
    (search : Search) (ds : List Document) (uri at base : Text) (v : Value) (t : Tenant) → IsBundle search ds uri v
    → base_form at ≡ Ok base → 0 < t.most_documents → length (text v) ≤ t.most_bytes
    → step search (empty_registry [] t) (put at (text v)) ≡ (stored uri false, record (empty_registry [] t) { documents = document_from base v ∷ [] })

-- what a bundle is, put alone under this base: it has no fault, its resources are those of the documents, its table is alike
-- to theirs, and it answers as they do
pub record StandsAlone (search : Search) (ds : List Document) (uri base : Text) (v : Value) : Type 0 where
  pub faultless : scan_fault base v ≡ None
  pub regular : IsTrue (is_regular search v)
  pub canonical : (document_from base v).canonical ≡ uri
  pub resources : (u : Text) → Contains (resource_uris (table_of (document_from base v ∷ []))) u ↔ Contains (resource_uris (table_of ds)) u
  pub alike : IsAlike (table_of ds) (table_of (document_from base v ∷ []))
  pub answers : (matches : Text → Text → Bool) (x : Value) → answer matches (document_from base v ∷ []) uri x ≡ answer matches ds uri x

abbrev pub BundlesStandAlone : Type 0
BundlesStandAlone = (search : Search) (ds : List Document) (uri base : Text) (v : Value) → IsBundle search ds uri v → StandsAlone search ds uri base v
