-- Changes of a registry, and what is seen beside its library.
use Rattle.std.proofs.Common.{◌≡◌, List, Contains, false}
use Rattle.definitions.specs.Values.{Text}
use Rattle.definitions.specs.Schemas.{Document}
use Rattle.definitions.specs.Documents.{documents_with, documents_with_all, others_of}
use Rattle.definitions.specs.Registries.{Registry, documents_seen, is_in_library}
use Rattle.definitions.specs.Searches.{Search}
use Rattle.definitions.specs.Keeping.{IsKept}
use Rattle.definition_laws.proofs.JoinedDocuments.{joined_placed, joined_without, joined_all}

pub puts : (g : Registry) (d : Document) → is_in_library g d.canonical ≡ false
    → documents_seen (record g { documents = documents_with d g.documents }) ≡ documents_with d (documents_seen g)
puts g d unowned = joined_placed g.library d g.documents unowned

pub deletes : (search : Search) (g : Registry) (uri : Text) → IsKept search g → is_in_library g uri ≡ false
    → documents_seen (record g { documents = others_of uri g.documents }) ≡ others_of uri (documents_seen g)
deletes search g uri kept unowned = joined_without g.library g.documents uri unowned kept.ordered

pub batches : (g : Registry) (ds : List Document) → ((d : Document) → Contains ds d → is_in_library g d.canonical ≡ false)
    → documents_seen (record g { documents = documents_with_all ds g.documents }) ≡ documents_with_all ds (documents_seen g)
batches g ds unowned = joined_all g.library ds g.documents unowned
