-- What holds of a registry after every request.
use Rattle.std.specs.Prelude.{Contains, IsTrue, List, None, false, length, ◌≡◌, ◌≤◌}
use Rattle.definitions.specs.Lists.{has_repeat}
use Rattle.definitions.specs.Values.{same_text}
use Rattle.definitions.specs.Schemas.{Document, document_from}
use Rattle.definitions.specs.Scanning.{scan_fault}
use Rattle.definitions.specs.Searches.{Search, is_regular}
use Rattle.definitions.specs.Documents.{bytes_of, Ascend, resource_uris_of}
use Rattle.definitions.specs.Registries.{Registry, documents_seen, is_in_library}

-- documents in byte order of canonical URIs that no fault is found in, without a resource URI twice
pub record AreKept (search : Search) (ds : List Document) : Type 0 where
  pub ordered : Ascend ds
  pub named : (d : Document) → Contains ds d → d ≡ document_from d.base d.value
  pub distinct : has_repeat same_text (resource_uris_of ds) ≡ false
  pub scanned : (d : Document) → Contains ds d → scan_fault d.base d.value ≡ None
  pub regular_patterns : (d : Document) → Contains ds d → IsTrue (is_regular search d.value)

-- its own documents, within the quotas, and they and the library's together
pub record IsKept (search : Search) (g : Registry) : Type 0 where
  pub ordered : Ascend g.documents
  pub few : length g.documents ≤ g.most_documents
  pub small : bytes_of g.documents ≤ g.most_bytes
  pub apart : (d : Document) → Contains g.documents d → is_in_library g d.canonical ≡ false
  pub seen : AreKept search (documents_seen g)
