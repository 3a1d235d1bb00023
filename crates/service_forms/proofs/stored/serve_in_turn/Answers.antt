use Rattle.std.proofs.Common.{◌≡◌, ◌∙◌, Ok, Err, refl, sym, ap, subst, inl, inr}
use Rattle.connections.specs.Connected.{handler_of}
use Rattle.http_front.specs.Stored.{FindsThese}
use Rattle.tenant_hub.specs.Hubs.{hub_view}
use Rattle.service_forms.proofs.Restored.{closed_store, stored_in_turn}
use Rattle.service_forms.proofs.stored.serve_in_turn.Goals as goal

pub returns-in-Err : goal.returns-in-Err
returns-in-Err g c = inl c.in-Err.ensures

pub returns-in-Ok-serve_connections : goal.returns-in-Ok-serve_connections
returns-in-Ok-serve_connections g c =
    let before = handler_of c.new-sessions.result in
    let after = handler_of c.serve_connections.new.sessions in
    let same = c.new-sessions.ensures.handler in
    let found = subst (λ h. FindsThese g.D.DocumentStore.recovers h.store (hub_view h.hub)) (sym same) c.requires.found in (
      refl,
      stored_in_turn g.D.DocumentStore.recovers (hub_view c.args.hub.hub) (hub_view before.hub) (hub_view after.hub) c.args.turns.accept (Ok tt) c.close.new.self.store
          (ap (λ h. hub_view h.hub) same) (c.in-Ok-serve_connections.ensures.served c.new-sessions.ensures.none)
          (closed_store g.D.DocumentStore.recovers (λ h. h.store) (λ h. hub_view h.hub) after c.into_handler-hub.result c.close.new.self c.into_handler-hub.ensures
          c.close.ensures.state c.close.ensures.found
          (c.in-Ok-serve_connections.ensures.found c.new-sessions.ensures.none found)),
    )

pub returns : goal.returns
returns g c =
    let before = handler_of c.new-sessions.result in
    let after = handler_of c.serve_connections.new.sessions in
    let same = c.new-sessions.ensures.handler in
    let found = subst (λ h. FindsThese g.D.DocumentStore.recovers h.store (hub_view h.hub)) (sym same) c.requires.found in
    inr (
      c.in-Err-serve_connections.outage,
      c.of_outage.ensures,
      stored_in_turn g.D.DocumentStore.recovers (hub_view c.args.hub.hub) (hub_view before.hub) (hub_view after.hub) c.args.turns.accept
          (Err c.in-Err-serve_connections.outage) after.store (ap (λ h. hub_view h.hub) same)
          (c.in-Err-serve_connections.ensures.served c.new-sessions.ensures.none)
          (c.in-Err-serve_connections.ensures.found c.new-sessions.ensures.none found),
    )
