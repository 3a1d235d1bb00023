use Rattle.std.proofs.Common.{subst}
use Rattle.http_front.specs.SideBySide.{AreKeptSideBySide}
use Rattle.stored_hub.specs.Storing.{Finds}
use Rattle.tenant_hub.specs.Hubs.{hub_view}
use Rattle.service_forms.proofs.Restored.{kept_on}
use Rattle.service_forms.proofs.registries.StoredHubRegistries.serve.Goals as goal

pub returns-in-Ok : goal.returns-in-Ok
returns-in-Ok g c = λ clean.
    let hub = c.serve_stored_side_by_side-hub.result.0 in
    let finds = Finds g.D.DocumentStore.recovers hub.store (hub_view hub.hub) in
    let closed = c.close.new.self in
    let reads = g.N.Network.reads c.args.network.now in
    let writes = g.N.Network.writes c.args.network.now in
    let more = g.N.Network.reads c.serve_stored_side_by_side-hub.new.network in
    let others = g.N.Network.writes c.serve_stored_side_by_side-hub.new.network in
    let kept = subst (λ r. AreKeptSideBySide (hub_view c.args.self.hub) finds reads writes r more others) c.in-Ok.is (c.serve_stored_side_by_side-hub.ensures.kept clean) in (
      closed.store,
      hub_view closed.hub,
      kept_on (hub_view c.args.self.hub) finds (Finds g.D.DocumentStore.recovers closed.store (hub_view closed.hub)) reads writes more others c.close.ensures.found kept,
    )
