-- The library of a new server, where one of its patterns may be too big.
use Rattle.std.specs.Prelude.{◌⊎◌, List, [], Option, Some, None, Result, Ok, Err}
use Rattle.definitions.specs.Batches.{library_of}
use Rattle.definitions.specs.Faults.{Fault, bad_pattern}
use Rattle.definitions.specs.Patterns.{regular_search}
use Rattle.definitions.specs.Schemas.{Document}
use Rattle.definitions.specs.Values.{Text}
use Rattle.tenant_hub.specs.RefusedServers.{HavePatterns}

-- What holds of no library, or of the one that a batch gives, or is refused for. One of its patterns may be refused though the
-- grammar reads it, where it is too big once it is built
abbrev pub OnLibraryOf : Option Text → (Result (List Document) Fault → Type 0) → Type 0
OnLibraryOf None P = P (Ok [])
OnLibraryOf (Some batch) P = P (library_of regular_search batch) ⊎ (HavePatterns (Some batch) × P (Err bad_pattern))
