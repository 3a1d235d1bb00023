-- What the documents of a registry are like, from request to request.
use Rattle.std.specs.Prelude.{◌≡◌, List, Ok, IsTrue, Contains}
use Rattle.std.specs.Str.{is_utf8}
use Rattle.definitions.specs.Values.{Text}
use Rattle.definitions.specs.Schemas.{Document}
use Rattle.definitions.specs.Reach.{reach}
use Rattle.definitions.specs.Registries.{Registry, documents_seen, Request, put, Reply}
use Rattle.definitions.specs.Searches.{Search}
use Rattle.definitions.specs.Batches.{library_of}
use Rattle.definitions.specs.Steps.{step}
use Rattle.definitions.specs.Runs.{Course}
use Rattle.definitions.specs.Keeping.{AreKept, IsKept}
use Rattle.definition_laws.specs.Identities.{IsDefinite}
use Rattle.definition_laws.specs.Keeping.{HaveBodyValues, HaveBaseForms}
use Rattle.bundle_laws.specs.Identifying.{IsIdentifierText}

abbrev pub HaveBaseTexts : List Document → Type 0
HaveBaseTexts ds = (d : Document) → Contains ds d → IsTrue (is_utf8 d.base)

-- kept, with values of bodies, under base forms of URIs in UTF-8
pub record AreRegistered (search : Search) (ds : List Document) : Type 0 where
  pub kept : AreKept search ds
  pub body_values : HaveBodyValues ds
  pub base_forms : HaveBaseForms ds
  pub base_texts : HaveBaseTexts ds

-- kept, with values whose names stand once, under canonical URIs that are identifiers in UTF-8, which stay theirs wherever
-- the documents stand
pub record AreIdentified (search : Search) (ds : List Document) : Type 0 where
  pub kept : AreKept search ds
  pub values : (d : Document) → Contains ds d → IsDefinite d.value
  pub identifiers : (d : Document) → Contains ds d → IsIdentifierText d.canonical
  pub texts : (d : Document) → Contains ds d → IsTrue (is_utf8 d.canonical)

abbrev pub RegisteredDocumentsAreIdentified : Type 0
RegisteredDocumentsAreIdentified = (search : Search) (ds : List Document) → AreRegistered search ds → AreIdentified search ds

-- those that a URI reaches among such documents are such
abbrev pub ReachedDocumentsAreRegistered : Type 0
ReachedDocumentsAreRegistered = (search : Search) (ds : List Document) (uri : Text) → AreRegistered search ds → AreRegistered search (reach ds uri)

-- ---- from request to request
-- a put's URI is in UTF-8. The URIs in a batch are, since its body is
abbrev pub PutsText : Request → Type 0
PutsText (put uri body) = IsTrue (is_utf8 uri)
PutsText _ = Unit {0}

abbrev pub LibrariesHaveBaseTexts : Type 0
LibrariesHaveBaseTexts = (search : Search) (bytes : Text) (library : List Document) → library_of search bytes ≡ Ok library → HaveBaseTexts library

abbrev pub StepsKeepBaseTexts : Type 0
StepsKeepBaseTexts =
    (search : Search) (g : Registry) (q : Request) → IsKept search g → PutsText q → HaveBaseTexts (documents_seen g)
    → HaveBaseTexts (documents_seen (step search g q).1)

abbrev pub CoursesKeepBaseTexts : Type 0
CoursesKeepBaseTexts =
    (search : Search) (g h : Registry) (qs : List Request) (rs : List Reply) → Course search g qs rs h → IsKept search g
    → ((q : Request) → Contains qs q → PutsText q) → HaveBaseTexts (documents_seen g) → HaveBaseTexts (documents_seen h)
