-- The registries of a new server.
use Rattle.std.specs.Prelude.{◌≡◌, ℕ, List, Result, Ok}
use Rattle.definitions.specs.Faults.{Fault}
use Rattle.definitions.specs.Schemas.{Document}
use Rattle.definitions.specs.Services.{KeyedRegistry}
use Rattle.definitions.specs.Tenants.{Tenant, new_server}
use Rattle.stored_rows.specs.Restoring.{emptied}

-- over whatever library
abbrev pub NewServersHaveNoDocuments : Type 0
NewServersHaveNoDocuments =
    (tenants : List Tenant) (capacity : ℕ) (library : Result (List Document) Fault) (ks : List KeyedRegistry) → new_server tenants capacity library ≡ Ok ks → emptied ks ≡ ks
