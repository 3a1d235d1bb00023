-- Why an entry of a batch is refused: its first fault, or a pattern that couldn't be built though the grammar reads it.
use Rattle.std.specs.Prelude.{◌≡◌, ◌⊎◌, ℕ, List, Ok, Err, Result, IsTrue}
use Rattle.definitions.specs.Batches.{Entry, document_under, entry_documents, library_by}
use Rattle.definitions.specs.Faults.{Fault, bad_pattern}
use Rattle.definitions.specs.Patterns.{regular_search}
use Rattle.definitions.specs.Resolution.{base_form}
use Rattle.definitions.specs.Runs.{builds_at, entries_build}
use Rattle.definitions.specs.Searches.{builds}
use Rattle.definitions.specs.Values.{Text, Value}

-- under this base, where it is one
abbrev pub IsRefusedUnder : Result Text Fault → Value → Fault → Type 0
IsRefusedUnder base v f =
    (document_under regular_search base v ≡ Err f) ⊎ ((f ≡ bad_pattern) × IsTrue (builds regular_search base (Ok v)))

abbrev pub IsRefusedEntry : Entry → Fault → Type 0
IsRefusedEntry e f = IsRefusedUnder (base_form e.uri) e.schema f

-- this is the entry of a batch that is refused
abbrev pub IsRefusedAt : List Entry → ℕ → Fault → Type 0
IsRefusedAt es n f = (entry_documents regular_search 0 es ≡ Err (n, f)) ⊎ ((f ≡ bad_pattern) × IsTrue (builds_at regular_search n es))

-- a library of these entries is refused so, or for the patterns of one of them
abbrev pub IsRefusedLibrary : Result (List Entry) Fault → Fault → Type 0
IsRefusedLibrary es f =
    (library_by regular_search es ≡ Err f) ⊎ ((f ≡ bad_pattern) × ((n : ℕ) × IsTrue (entries_build regular_search n es)))
