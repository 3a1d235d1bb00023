-- The registries of a hub, and how many documents its cache may keep.
use Rattle.std.specs.Prelude.{ℕ, List, map}
use Rattle.definitions.specs.Services.{KeyedRegistry}
use Rattle.tenant_hub.specs.KeyedRegistries.{keyed_view}
use Rattle.tenant_hub.specs.declared.hub.Hub.{Hub}

unfoldable pub hub_view : Hub → List KeyedRegistry
hub_view h = map keyed_view h.registries.items

abbrev pub cache_capacity : Hub → ℕ
cache_capacity h = h.workspace.cache.capacity
