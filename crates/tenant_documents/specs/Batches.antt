-- What a batch of documents may answer.
use Rattle.std.specs.Prelude.{◌≡◌, ◌≢◌, ◌⊎◌, ℕ, Ok, List, Bool, is_some}
use Rattle.definitions.specs.Batches.{Entry, entry_documents, put_all_into}
use Rattle.definitions.specs.Documents.{document_of}
use Rattle.definitions.specs.Faults.{no_room}
use Rattle.definitions.specs.Patterns.{regular_search}
use Rattle.definitions.specs.Registries.{Registry, Reply, refused}
use Rattle.definitions.specs.Schemas.{Document}
use Rattle.definitions.specs.Values.{Text}
use Rattle.faults.specs.View.{fault_view}
use Rattle.faults.specs.declared.Fault.{Fault}
use Rattle.faults.specs.declared.Fault.TheVariants.{NoRoom}
use Rattle.stored_documents.specs.SharedStored.{stored_documents}
use Rattle.tenant_documents.specs.EntryRefusals.{IsRefusedAt}
use Rattle.tenant_documents.specs.declared.batch_entries.EnteredBatch.{EnteredBatch}
use Rattle.tenant_documents.specs.declared.batch_entries.EnteredBatch.TheVariants.{Documents, Refused}

-- the documents of the entries, or why one of them is refused
abbrev pub IsEntered : List Entry → EnteredBatch → Type 0
IsEntered es (Documents ds) = entry_documents regular_search 0 es ≡ Ok (stored_documents ds.items)
IsEntered es (Refused n f) = IsRefusedAt es n (fault_view f)

-- the batches whose entry of this number is refused so, unless it is for want of memory, are entered so
abbrev pub IsRefusal : ℕ → Fault → EnteredBatch → Type 0
IsRefusal n why e = (es : List Entry) → (why ≢ NoRoom → IsRefusedAt es n (fault_view why)) → IsEntered es e

-- what putting these documents together into the registry gives, or want of room
abbrev pub IsPutTogether : Registry → List Document → Reply → Registry → Type 0
IsPutTogether g ds r h = ((r ≡ (put_all_into g ds).0) × (h ≡ (put_all_into g ds).1)) ⊎ ((r ≡ refused no_room) × (h ≡ g))

-- what is answered of one of several documents: its URI, and whether one is there already
abbrev pub stored_reply : Registry → Document → Text × Bool
stored_reply g d = (d.canonical, is_some (document_of g.documents d.canonical))
