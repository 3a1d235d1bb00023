-- A new server's registries have no documents.
use Rattle.std.proofs.Common.{◌≡◌, List, [], ◌∷◌, Option, Some, None, Result, Ok, Err, refl, ap, subst}
use Rattle.definitions.specs.Faults.{Fault}
use Rattle.definitions.specs.Schemas.{Document}
use Rattle.definitions.specs.Services.{KeyedRegistry}
use Rattle.definitions.specs.Tenants.{Tenant, empty_registries, empty_registry, over_library, server_fault, unless_refused}
use Rattle.stored_rows.specs.Restoring.{emptied}
use Rattle.stored_hub.specs.NewServers.{NewServersHaveNoDocuments}

empty_ones : (library : List Document) (ts : List Tenant) → emptied (empty_registries library ts) ≡ empty_registries library ts
empty_ones library [] = refl
empty_ones library (t ∷ ts) = ap (λ ks. record { key = t.key; registry = empty_registry library t } ∷ ks) (empty_ones library ts)

ok_same : {a b : List KeyedRegistry} → ◌≡◌ {A = Result (List KeyedRegistry) Fault} (Ok a) (Ok b) → a ≡ b
ok_same e = cc

by_library : (ts : List Tenant) (library : Result (List Document) Fault) (ks : List KeyedRegistry) → over_library ts library ≡ Ok ks → emptied ks ≡ ks
by_library ts (Ok ds) ks e = subst (λ xs. emptied xs ≡ xs) (ok_same e) (empty_ones ds ts)
by_library ts (Err f) ks e = cc

by_fault : (o : Option Fault) (ts : List Tenant) (library : Result (List Document) Fault) (ks : List KeyedRegistry) → unless_refused o ts library ≡ Ok ks → emptied ks ≡ ks
by_fault None ts library ks e = by_library ts library ks e
by_fault (Some f) ts library ks e = cc

pub new_servers_empty : NewServersHaveNoDocuments
new_servers_empty ts capacity library ks e = by_fault (server_fault ts capacity) ts library ks e
