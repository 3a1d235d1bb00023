-- What the laws say of the documents that a registry holds, by their canonical URIs.
use Rattle.std.specs.Prelude.{◌≡◌, ◌≢◌, ◌↔◌, List, Some, None, false, find, Contains, IsTrue}
use Rattle.std.specs.Ordering.{nat_cmp, is_lt}
use Rattle.std.specs.Cmp.Lexicographic.{slice_cmp}
use Rattle.definitions.specs.Values.{Text, Value}
use Rattle.definitions.specs.Schemas.{Document, document_from}
use Rattle.definitions.specs.Reach.{holds_resource, reach}
use Rattle.definitions.specs.Documents.{document_of, resources_of, taken_uri, AreSound}
use Rattle.definitions.specs.Searches.{Search}
use Rattle.definitions.specs.Keeping.{AreKept}

-- a document has a resource under its canonical URI, its root
abbrev pub DocumentsHoldTheirUris : Type 0
DocumentsHoldTheirUris = (base : Text) (v : Value) → IsTrue (holds_resource (document_from base v).canonical (document_from base v))

-- so its canonical URI reaches it
abbrev pub StoredDocumentsAreReached : Type 0
StoredDocumentsAreReached =
    (search : Search) (ds : List Document) (d : Document) → AreKept search ds → Contains ds d → Contains (reach ds d.canonical) d

-- among kept documents the one that is found by a URI is the one that has it as its canonical URI
abbrev pub DocumentsAreFoundByTheirUris : Type 0
DocumentsAreFoundByTheirUris =
    (search : Search) (ds : List Document) (uri : Text) (d : Document) → AreKept search ds
    → (document_of ds uri ≡ Some d) ↔ (Contains ds d × (d.canonical ≡ uri))

-- a resource is found in the one document that holds it
abbrev pub HoldersAreUnique : Type 0
HoldersAreUnique =
    (search : Search) (ds : List Document) (uri : Text) (d : Document) → AreKept search ds → Contains ds d → IsTrue (holds_resource uri d)
    → find (holds_resource uri) ds ≡ Some d

-- as its root in the document that is found by its canonical URI
abbrev pub CanonicalUrisFindTheirHolders : Type 0
CanonicalUrisFindTheirHolders =
    (search : Search) (ds : List Document) (uri : Text) (d : Document) → AreKept search ds → document_of ds uri ≡ Some d
    → find (holds_resource uri) ds ≡ Some d

-- a document with another canonical URI, among these, has a resource of this URI
pub record IsHeldByAnother (ds : List Document) (d : Document) (uri : Text) : Type 0 where
  pub other : Document
  pub inside : Contains ds other
  pub differs : d.canonical ≢ other.canonical
  pub holds : IsTrue (holds_resource uri other)

-- one of the document's own URIs, held by another, and the least of these
pub record IsTaken (ds : List Document) (d : Document) (uri : Text) : Type 0 where
  pub own : Contains (resources_of d) uri
  pub held : IsHeldByAnother ds d uri
  pub none_less : (u : Text) → Contains (resources_of d) u → IsHeldByAnother ds d u → is_lt (slice_cmp nat_cmp u uri) ≡ false

abbrev pub TakenUrisAreHeldByAnother : Type 0
TakenUrisAreHeldByAnother = (ds : List Document) (d : Document) (uri : Text) → taken_uri ds d ≡ Some uri → IsTaken ds d uri

-- where none is taken none of its own is held by another
abbrev pub FreeUrisAreHeldByNoOther : Type 0
FreeUrisAreHeldByNoOther =
    (ds : List Document) (d : Document) (uri : Text) → taken_uri ds d ≡ None → Contains (resources_of d) uri → IsHeldByAnother ds d uri → ⊥

-- kept documents are as a source of documents has them
abbrev pub KeptDocumentsAreSound : Type 0
KeptDocumentsAreSound = (search : Search) (ds : List Document) → AreKept search ds → AreSound ds
