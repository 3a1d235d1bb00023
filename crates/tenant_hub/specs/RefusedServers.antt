-- The library of a new server, and why a server isn't made.
use Rattle.std.specs.Prelude.{◌≡◌, ◌⊎◌, ℕ, List, [], Option, Some, None, Result, Ok, Err, IsTrue, option_map}
use Rattle.std.specs.Borrow.{Bor}
use Rattle.definitions.specs.Batches.{batch_entries, library_of}
use Rattle.definitions.specs.Faults.{Fault, bad_pattern}
use Rattle.definitions.specs.Patterns.{regular_search}
use Rattle.definitions.specs.Runs.{entries_build}
use Rattle.definitions.specs.Schemas.{Document}
use Rattle.definitions.specs.Tenants.{Tenant, server_fault, new_server}
use Rattle.definitions.specs.Values.{Text}
use Rattle.tenant_documents.specs.EntryRefusals.{IsRefusedLibrary}

-- the batch of a library, if there is one
abbrev pub batch_view : Option (Bor Text) → Option Text
batch_view = option_map (λ b. b.now)

-- the library that it gives
abbrev pub given_library : Option Text → Result (List Document) Fault
given_library None = Ok []
given_library (Some batch) = library_of regular_search batch

-- some entry of the batch has patterns, and nothing is wrong up to it
abbrev pub HavePatterns : Option Text → Type 0
HavePatterns None = ⊥
HavePatterns (Some batch) = (n : ℕ) × IsTrue (entries_build regular_search n (batch_entries batch))

-- the library isn't made for this fault
abbrev pub IsRefusedBatch : Option Text → Fault → Type 0
IsRefusedBatch None f = ⊥
IsRefusedBatch (Some batch) f = IsRefusedLibrary (batch_entries batch) f

-- the server isn't made for this fault; or its tenants and its capacity have none, and a pattern of the library couldn't be built
-- though the grammar reads it
abbrev pub IsRefusedServer : List Tenant → ℕ → Option Text → Fault → Type 0
IsRefusedServer tenants capacity library f =
    (new_server tenants capacity (given_library library) ≡ Err f)
    ⊎ ((f ≡ bad_pattern) × (server_fault tenants capacity ≡ None) × HavePatterns library)
