-- The tenants of a registry server: their file, what a new server is refused for, and the registry of each.
use Rattle.std.specs.Prelude.{ℕ, ◌^◌, pos, List, [], Bool, ◌&&◌, not, Option, Some, None, Result, Ok, Err, nat_lt, ◌++◌, if◌then◌else◌, nat_le, length, codes, map, option_and_then, option_map}
use Rattle.std.specs.List.{list_all}
use Rattle.definitions.specs.Limits.{limits}
use Rattle.definitions.specs.Bytes.{is_visible}
use Rattle.definitions.specs.Lists.{has_repeat, each, first, when}
use Rattle.definitions.specs.Values.{Text, Value, integer, array, elements_list, get, text_at, same_text}
use Rattle.definitions.specs.Faults.{Fault, bad_capacity, duplicate_tenant, too_many_tenants, bad_tenants}
use Rattle.definitions.specs.Texts.{parsed_value}
use Rattle.definitions.specs.Schemas.{Document}
use Rattle.definitions.specs.Registries.{Registry}
use Rattle.definitions.specs.Services.{KeyedRegistry}
use Rattle.definitions.specs.Caches.{is_capacity}

-- its key, and how many documents it may have and how many bytes of them
pub record Tenant : Type 0 where
  pub key : Text
  pub most_documents : ℕ
  pub most_bytes : ℕ

-- ---- `{"tenants":[{"bytes":<number>,"documents":<number>,"key":<text>},..]}`; other members are ignored
-- a whole number that is less
abbrev pub number_below : ℕ → Value → Option ℕ
number_below n (integer (pos m)) = if nat_lt m n then Some m else None
number_below n v = None

abbrev pub tenant_in : Value → Option Tenant
tenant_in v =
    option_and_then (λ key. option_and_then (λ documents. option_map (λ bytes. record { key = key; most_documents = documents; most_bytes = bytes })
    (option_and_then (number_below (2 ^ 64)) (get (codes "bytes") v)))
    (option_and_then (number_below (2 ^ 32)) (get (codes "documents") v)))
    (text_at (codes "key") v)

abbrev pub tenants_in : Option Value → Option (List Tenant)
tenants_in (Some (array vs)) = each tenant_in (elements_list vs)
tenants_in _ = None

abbrev pub some_tenants : Option (List Tenant) → Result (List Tenant) Fault
some_tenants None = Err bad_tenants
some_tenants (Some ts) = Ok ts

abbrev pub tenants_of : Result Value Fault → Result (List Tenant) Fault
tenants_of (Ok v) = some_tenants (tenants_in (get (codes "tenants") v))
tenants_of (Err f) = Err f

abbrev pub file_tenants : Text → Result (List Tenant) Fault
file_tenants bytes = tenants_of (parsed_value bytes)

-- ---- a new server
-- visible characters of ASCII
abbrev pub is_key : Text → Bool
is_key key = nat_lt 0 (length key) && (nat_le (length key) limits.key_characters && list_all is_visible key)

-- the first fault of the capacity and the tenants
abbrev pub server_fault : List Tenant → ℕ → Option Fault
server_fault tenants capacity = first (
    when (not (is_capacity capacity)) bad_capacity
    ++ (when (nat_lt limits.tenants (length tenants)) too_many_tenants
    ++ (when (not (list_all (λ t. is_key t.key) tenants)) bad_tenants
    ++ when (has_repeat same_text (map (λ t. t.key) tenants)) duplicate_tenant)))

abbrev pub empty_registry : List Document → Tenant → Registry
empty_registry library t = record { documents = []; library = library; most_documents = t.most_documents; most_bytes = t.most_bytes }

-- each tenant's registry before the first request
abbrev pub empty_registries : List Document → List Tenant → List KeyedRegistry
empty_registries library = map (λ t. record { key = t.key; registry = empty_registry library t })

abbrev pub over_library : List Tenant → Result (List Document) Fault → Result (List KeyedRegistry) Fault
over_library tenants (Ok library) = Ok (empty_registries library tenants)
over_library tenants (Err f) = Err f

abbrev pub unless_refused : Option Fault → List Tenant → Result (List Document) Fault → Result (List KeyedRegistry) Fault
unless_refused None tenants library = over_library tenants library
unless_refused (Some f) tenants library = Err f

-- over the library that a batch gives, or is refused for; without one the library has no document
abbrev pub new_server : List Tenant → ℕ → Result (List Document) Fault → Result (List KeyedRegistry) Fault
new_server tenants capacity library = unless_refused (server_fault tenants capacity) tenants library
