-- Registries with their keys as the definitions have them, and the position of a key.
use Rattle.std.specs.Prelude.{ℕ, ◌+◌, List, [], ◌∷◌, Option, Some, None, if◌then◌else◌, string_bytes}
use Rattle.definitions.specs.Schemas.{Document}
use Rattle.definitions.specs.Services as meaning
use Rattle.definitions.specs.Tenants.{Tenant, empty_registry}
use Rattle.definitions.specs.Values.{Text, same_text}
use Rattle.tenant_documents.specs.Registries.{registry_view}
use Rattle.tenant_hub.specs.declared.keyed_registry.KeyedRegistry.{KeyedRegistry}

abbrev pub keyed_view : KeyedRegistry → meaning.KeyedRegistry
keyed_view k = record { key = string_bytes k.key; registry = registry_view k.registry }

-- a tenant's registry before the first request
abbrev pub new_registry : List Document → Tenant → meaning.KeyedRegistry
new_registry library t = record { key = t.key; registry = empty_registry library t }

-- the first position of the key, from i on
abbrev pub position_of : Text → ℕ → List KeyedRegistry → Option ℕ
position_of key i [] = None
position_of key i (k ∷ ks) = if same_text key (string_bytes k.key) then Some i else position_of key (i + 1) ks
