-- A new server, of a tenants' file.
use Rattle.std.specs.Prelude.{ℕ, List, Result, Ok, Err}
use Rattle.definitions.specs.Faults.{Fault}
use Rattle.definitions.specs.Schemas.{Document}
use Rattle.definitions.specs.Services.{KeyedRegistry}
use Rattle.definitions.specs.Tenants.{Tenant, file_tenants, new_server}
use Rattle.definitions.specs.Values.{Text}

abbrev pub server_for : Result (List Tenant) Fault → ℕ → Result (List Document) Fault → Result (List KeyedRegistry) Fault
server_for (Ok tenants) capacity library = new_server tenants capacity library
server_for (Err f) capacity library = Err f

-- the file is judged first
abbrev pub server_of : Text → ℕ → Result (List Document) Fault → Result (List KeyedRegistry) Fault
server_of file capacity library = server_for (file_tenants file) capacity library
