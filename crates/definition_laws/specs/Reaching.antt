-- What the laws say of the documents that a URI reaches (JSON Schema 2020-12 Core, 8.2.3 and 9.2).
use Rattle.std.specs.Prelude.{◌≡◌, ◌≢◌, ◌↔◌, List, [], false, Contains, IsTrue}
use Rattle.definitions.specs.Values.{Text, same_text}
use Rattle.definitions.specs.Lists.{has_repeat}
use Rattle.definitions.specs.Schemas.{Document, table_of}
use Rattle.definitions.specs.Scanning.{resource_uris}
use Rattle.definitions.specs.Reach.{holds_resource, reach, IsReached, ReachIsLeast}
use Rattle.definitions.specs.Alike.{Agree}
use Rattle.definitions.specs.Documents.{documents_with, others_of, resource_uris_of}
use Rattle.definitions.specs.Searches.{Search}
use Rattle.definitions.specs.Keeping.{AreKept}

-- of documents with distinct canonical URIs, a URI reaches those in the least set that has each document with a resource
-- of this URI, and each document that one in it refers to
abbrev pub ReachedSetsAreLeast : Type 0
ReachedSetsAreLeast = (G : List Document) (uri : Text) → ReachIsLeast G uri

-- kept documents have distinct canonical URIs
abbrev pub KeptDocumentsReachLeastSets : Type 0
KeptDocumentsReachLeastSets =
    (search : Search) (ds : List Document) → AreKept search ds → (uri : Text) (d : Document) → Contains (reach ds uri) d ↔ IsReached ds uri d

-- the reached ones of kept documents, in their order, are kept
abbrev pub ReachedDocumentsAreKept : Type 0
ReachedDocumentsAreKept = (search : Search) (ds : List Document) (uri : Text) → AreKept search ds → AreKept search (reach ds uri)

abbrev pub HaveDistinctResources : List Document → Type 0
HaveDistinctResources ds = has_repeat same_text (resource_uris_of ds) ≡ false

-- among documents without a resource URI twice, reached ones have none twice
abbrev pub ReachedResourcesAreDistinct : Type 0
ReachedResourcesAreDistinct = (G : List Document) (uri : Text) → HaveDistinctResources G → HaveDistinctResources (reach G uri)

-- and a resource URI is held by one of them at most
abbrev pub ResourcesHaveOneDocument : Type 0
ResourcesHaveOneDocument =
    (G : List Document) (uri : Text) (d e : Document) → HaveDistinctResources G → Contains G d → Contains G e
    → IsTrue (holds_resource uri d) → IsTrue (holds_resource uri e) → d ≡ e

-- the URIs that the schemas of all documents open are those of the documents, in their order
abbrev pub TablesOpenTheDocumentsResources : Type 0
TablesOpenTheDocumentsResources = (ds : List Document) → resource_uris (table_of ds) ≡ resource_uris_of ds

-- nothing is reached exactly where no document has a resource of this URI
abbrev pub NothingIsReachedFromNothing : Type 0
NothingIsReachedFromNothing =
    (G : List Document) (uri : Text) → (reach G uri ≡ []) ↔ ((d : Document) → Contains G d → holds_resource uri d ≡ false)

-- kept documents agree at a URI that reaches the same in both, so that what isn't reached changes no answer
abbrev pub SameReachedSetsAgree : Type 0
SameReachedSetsAgree =
    (search : Search) (ds es : List Document) (uri : Text) → AreKept search ds → AreKept search es
    → ((d : Document) → IsReached ds uri d ↔ IsReached es uri d) → Agree ds es uri

-- no document with this canonical URI is reached
abbrev pub IsUnreached : List Document → Text → Text → Type 0
IsUnreached G uri canonical = (d : Document) → IsReached G uri d → d.canonical ≢ canonical

-- a document that is put changes no answer by a URI that reaches neither it nor the one that it replaces
abbrev pub UnreachedPutsChangeNothing : Type 0
UnreachedPutsChangeNothing =
    (search : Search) (ds : List Document) (d : Document) (uri : Text) → AreKept search ds → AreKept search (documents_with d ds)
    → IsUnreached ds uri d.canonical → IsUnreached (documents_with d ds) uri d.canonical → Agree ds (documents_with d ds) uri

-- and a document that is deleted none by a URI that doesn't reach it
abbrev pub UnreachedDeletesChangeNothing : Type 0
UnreachedDeletesChangeNothing =
    (search : Search) (ds : List Document) (canonical uri : Text) → AreKept search ds
    → IsUnreached ds uri canonical → Agree ds (others_of canonical ds) uri
