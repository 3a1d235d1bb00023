use Rattle.std.proofs.Common.{◌≡◌, List, Bor, map, filter, take}
use Rattle.definitions.specs.Values.{Text}
use Rattle.tenant_documents.specs.HeldBeside.{IsSetOf, is_held_beside}
use Rattle.tenant_documents.specs.Registries.{registry_view}
use Rattle.tenant_documents.proofs.registry.Registry.held_uris.Given as goal

abbrev pub invariant-loop-uri : goal.invariant-loop-uri
invariant-loop-uri l =
    (texts : List Text) → IsSetOf l.replaced texts
    → map (λ (t : Bor Text). t.now) l.held.items ≡ filter (is_held_beside (registry_view l.self) texts) (map (λ (t : Bor Text). t.now) (take l.uri-index l.uris))
