-- The registries of a new server.
use Rattle.std.proofs.Common.{◌≡◌, ◌++◌, ℕ, List, [], ◌∷◌, Bool, true, false, not, Option, None, Some, Result, Ok, Err, map, refl, sym, ap, ◌∙◌, inl, inr}
use Rattle.definitions.specs.Batches.{library_of}
use Rattle.definitions.specs.Caches.{is_capacity}
use Rattle.definitions.specs.Faults.{Fault, bad_capacity}
use Rattle.definitions.specs.Lists.{first, when}
use Rattle.definitions.specs.Patterns.{regular_search}
use Rattle.definitions.specs.Schemas.{Document}
use Rattle.definitions.specs.Services as meaning
use Rattle.definitions.specs.Tenants as tenants
use Rattle.definitions.specs.Tenants.{server_fault, unless_refused, over_library, new_server, empty_registries}
use Rattle.definitions.specs.Values.{Text}
use Rattle.tenants_file.specs.Tenants.{tenant_view}
use Rattle.tenants_file.specs.declared.tenants.Tenant.{Tenant}
use Rattle.tenant_hub.specs.KeyedRegistries.{keyed_view, new_registry}
use Rattle.tenant_hub.specs.RefusedServers.{IsRefusedBatch, IsRefusedServer}
use Rattle.tenant_hub.specs.declared.keyed_registry.KeyedRegistry.{KeyedRegistry}

map-twice : {A B C : Type 0} (f : B → C) (g : A → B) (xs : List A) → map f (map g xs) ≡ map (λ x. f (g x)) xs
map-twice f g [] = refl
map-twice f g (x ∷ xs) = ap (λ ys. f (g x) ∷ ys) (map-twice f g xs)

pub registries_made : (library : List Document) (ts : List Tenant) (ks : List KeyedRegistry) → map keyed_view ks ≡ map (λ t. new_registry library (tenant_view t)) ts
    → map keyed_view ks ≡ empty_registries library (map tenant_view ts)
registries_made library ts ks e = e ∙ sym (map-twice (new_registry library) tenant_view ts)

module _ (ts : List tenants.Tenant) (n : ℕ) where
  pub server_made : (r : Result (List Document) Fault) (library : List Document) (ks : List meaning.KeyedRegistry) → None ≡ server_fault ts n → r ≡ Ok library
      → ks ≡ empty_registries library ts → new_server ts n r ≡ Ok ks
  server_made r library ks none is e = ap (λ o. unless_refused o ts r) (sym none) ∙ ap (over_library ts) is ∙ ap Ok (sym e)

  pub library_refused : (r : Result (List Document) Fault) (f : Fault) → None ≡ server_fault ts n → r ≡ Err f → new_server ts n r ≡ Err f
  library_refused r f none is = ap (λ o. unless_refused o ts r) (sym none) ∙ ap (over_library ts) is

  capacity_within : (b : Bool) (later : List Fault) → b ≡ false → None ≡ first (when (not b) bad_capacity ++ later) → ⊥
  capacity_within true later e none = cc
  capacity_within false later e none = cc

  pub no_capacity : None ≡ server_fault ts n → is_capacity n ≡ false → ⊥
  no_capacity none e = capacity_within (is_capacity n) _ e none

  pub fault_refused : (r : Result (List Document) Fault) (f : Fault) → Some f ≡ server_fault ts n → new_server ts n r ≡ Err f
  fault_refused r f e = ap (λ o. unless_refused o ts r) (sym e)

  pub library_not_made : (library : Option Text) (f : Fault) → None ≡ server_fault ts n → IsRefusedBatch library f → IsRefusedServer ts n library f
  library_not_made None f none refused = absurd refused
  library_not_made (Some batch) f none (inl e) = inl (library_refused (library_of regular_search batch) f none e)
  library_not_made (Some batch) f none (inr s) = inr (s.0, sym none, s.1)
