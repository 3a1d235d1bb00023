use Rattle.std.proofs.Common.{◌≡◌, map, take}
use Rattle.tenant_hub.specs.KeyedRegistries.{keyed_view}
use Rattle.tenant_hub.proofs.hub.Hub.keys.Given as goal

abbrev pub invariant-loop-registry : goal.invariant-loop-registry
invariant-loop-registry l =
    map (λ k. k.now) l.keys.items ≡ map (λ k. k.key) (map keyed_view (take l.registry-index l.self.registries.items))
