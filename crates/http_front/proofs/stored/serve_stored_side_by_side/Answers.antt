use Rattle.stored_hub.specs.Storing.{Finds}
use Rattle.tenant_hub.specs.Hubs.{hub_view}
use Rattle.http_front.proofs.Kept.{kept_side_by_side}
use Rattle.http_front.proofs.stored.serve_stored_side_by_side.Goals as goal

pub returns-clause-kept : goal.returns-clause-kept
returns-clause-kept g c =
    kept_side_by_side (λ h. hub_view h.hub) (λ h. Finds g.D.DocumentStore.recovers h.store (hub_view h.hub)) _ _ _ _ _ _ c.serve_noted.result.1 c.serve_noted.ensures.served c.serve_noted.ensures.durable
