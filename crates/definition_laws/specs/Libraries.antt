-- What the laws say of a library's documents among a tenant's own.
use Rattle.std.specs.Prelude.{◌≡◌, List, Contains, false}
use Rattle.definitions.specs.Values.{Text}
use Rattle.definitions.specs.Schemas.{Document}
use Rattle.definitions.specs.Documents.{documents_with, documents_with_all, others_of}
use Rattle.definitions.specs.Registries.{Registry, documents_seen, is_in_library}
use Rattle.definitions.specs.Searches.{Search}
use Rattle.definitions.specs.Keeping.{IsKept}

-- what is put beside the library is put among all that is seen
abbrev pub PutsCommute : Type 0
PutsCommute =
    (g : Registry) (d : Document) → is_in_library g d.canonical ≡ false
    → documents_seen (record g { documents = documents_with d g.documents }) ≡ documents_with d (documents_seen g)

-- and what is deleted
abbrev pub DeletesCommute : Type 0
DeletesCommute =
    (search : Search) (g : Registry) (uri : Text) → IsKept search g → is_in_library g uri ≡ false
    → documents_seen (record g { documents = others_of uri g.documents }) ≡ others_of uri (documents_seen g)

-- and a batch
abbrev pub BatchesCommute : Type 0
BatchesCommute =
    (g : Registry) (ds : List Document) → ((d : Document) → Contains ds d → is_in_library g d.canonical ≡ false)
    → documents_seen (record g { documents = documents_with_all ds g.documents }) ≡ documents_with_all ds (documents_seen g)
