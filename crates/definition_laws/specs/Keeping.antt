-- What the laws say of a registry from request to request: `IsKept` holds of an empty one, and every request keeps it.
use Rattle.std.specs.Prelude.{◌≡◌, List, Ok, Contains, IsTrue}
use Rattle.definitions.specs.Values.{Text, Value, is_well_formed}
use Rattle.definitions.specs.Resolution.{base_form}
use Rattle.definitions.specs.Schemas.{Document}
use Rattle.definitions.specs.Registries.{Registry, documents_seen, Request, Reply}
use Rattle.definitions.specs.Searches.{Search}
use Rattle.definitions.specs.Limits.{limits}
use Rattle.definitions.specs.Batches.{library_of}
use Rattle.definitions.specs.Steps.{step}
use Rattle.definitions.specs.Runs.{Course}
use Rattle.definitions.specs.Keeping.{AreKept, IsKept}
use Rattle.definitions.specs.Tenants.{Tenant, empty_registry}
use Rattle.definition_laws.specs.Reading.{has_arrays_within}

-- what every value is like that was the body of a request, or stood in it
pub record IsBodyValue (v : Value) : Type 0 where
  pub well_formed : IsTrue (is_well_formed v)
  pub short_arrays : IsTrue (has_arrays_within limits.body_bytes v)

abbrev pub HaveBodyValues : List Document → Type 0
HaveBodyValues ds = (d : Document) → Contains ds d → IsBodyValue d.value

-- what every URI is like that a document was put under
pub record IsBaseForm (base : Text) : Type 0 where
  pub uri : Text
  pub is : base_form uri ≡ Ok base

abbrev pub HaveBaseForms : List Document → Type 0
HaveBaseForms ds = (d : Document) → Contains ds d → IsBaseForm d.base

-- a library's documents are as a registry keeps its own
abbrev pub LibrariesAreKept : Type 0
LibrariesAreKept =
    (search : Search) (bytes : Text) (library : List Document) → library_of search bytes ≡ Ok library
    → AreKept search library × (HaveBodyValues library × HaveBaseForms library)

-- beside such a library
abbrev pub EmptyRegistriesAreKept : Type 0
EmptyRegistriesAreKept = (search : Search) (library : List Document) (t : Tenant) → AreKept search library → IsKept search (empty_registry library t)

-- there it has the library's documents alone
abbrev pub EmptyRegistriesSeeTheLibrary : Type 0
EmptyRegistriesSeeTheLibrary =
    (search : Search) (library : List Document) (t : Tenant) → AreKept search library → documents_seen (empty_registry library t) ≡ library

abbrev pub StepsKeepRegistries : Type 0
StepsKeepRegistries = (search : Search) (g : Registry) (q : Request) → IsKept search g → IsKept search (step search g q).1

-- also where some of the requests are refused for room
abbrev pub CoursesKeepRegistries : Type 0
CoursesKeepRegistries =
    (search : Search) (g h : Registry) (qs : List Request) (rs : List Reply) → Course search g qs rs h → IsKept search g → IsKept search h

-- the documents' values stay what bodies are
abbrev pub StepsKeepBodyValues : Type 0
StepsKeepBodyValues =
    (search : Search) (g : Registry) (q : Request) → IsKept search g → HaveBodyValues (documents_seen g)
    → HaveBodyValues (documents_seen (step search g q).1)

abbrev pub CoursesKeepBodyValues : Type 0
CoursesKeepBodyValues =
    (search : Search) (g h : Registry) (qs : List Request) (rs : List Reply) → Course search g qs rs h → IsKept search g
    → HaveBodyValues (documents_seen g) → HaveBodyValues (documents_seen h)

-- and their bases base forms
abbrev pub StepsKeepBaseForms : Type 0
StepsKeepBaseForms =
    (search : Search) (g : Registry) (q : Request) → IsKept search g → HaveBaseForms (documents_seen g)
    → HaveBaseForms (documents_seen (step search g q).1)

abbrev pub CoursesKeepBaseForms : Type 0
CoursesKeepBaseForms =
    (search : Search) (g h : Registry) (qs : List Request) (rs : List Reply) → Course search g qs rs h → IsKept search g
    → HaveBaseForms (documents_seen g) → HaveBaseForms (documents_seen h)

-- no request changes a quota, or the library
pub record IsSetAlike (g h : Registry) : Type 0 where
  pub library : h.library ≡ g.library
  pub most_documents : h.most_documents ≡ g.most_documents
  pub most_bytes : h.most_bytes ≡ g.most_bytes

abbrev pub QuotasStay : Type 0
QuotasStay = (search : Search) (g : Registry) (q : Request) → IsSetAlike g (step search g q).1
