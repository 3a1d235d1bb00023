use Rattle.std.proofs.Common.{◌≡◌, Ok, Err, refl, ap, ◌∙◌, inl, inr}
use Rattle.connections.specs.Connected.{handler_of}
use Rattle.http_front.specs.HubAnswers.{handler_view}
use Rattle.tenant_hub.specs.Hubs.{hub_view}
use Rattle.service_forms.proofs.Alone.{served_in_turn}
use Rattle.service_forms.proofs.service.serve_at.Goals as goal

pub returns-in-Err : goal.returns-in-Err
returns-in-Err g c = inl c.in-Err.ensures

-- a hub keeps nothing, so that it is never unsettled
pub returns-in-Ok-serve_connections : goal.returns-in-Ok-serve_connections
returns-in-Ok-serve_connections g c = (
  refl,
  served_in_turn (hub_view c.args.hub) (handler_view (handler_of c.new-sessions.result)) (handler_view (handler_of c.serve_connections.new.sessions)) c.args.turns.accept (Ok tt)
      (ap handler_view c.new-sessions.ensures.handler ∙ c.new.ensures) c.in-Ok-serve_connections.ensures.keeps (c.in-Ok-serve_connections.ensures.served c.new-sessions.ensures.none),
)

pub returns : goal.returns
returns g c = inr (
  c.in-Err-serve_connections.outage,
  c.of_outage.ensures,
  served_in_turn (hub_view c.args.hub) (handler_view (handler_of c.new-sessions.result)) (handler_view (handler_of c.serve_connections.new.sessions)) c.args.turns.accept
      (Err c.in-Err-serve_connections.outage) (ap handler_view c.new-sessions.ensures.handler ∙ c.new.ensures) c.in-Err-serve_connections.ensures.keeps
      (c.in-Err-serve_connections.ensures.served c.new-sessions.ensures.none),
)
