use Rattle.std.proofs.Common.{◌≡◌, None, Some, Err, inl, inr}
use Rattle.command_line.specs.Calls.{setup_view}
use Rattle.tenant_hub.specs.Hubs.{hub_view}
use Rattle.service_forms.specs.Services.{OnStanding}
use Rattle.service_forms.specs.Stored.{EndsStoredServing, HasRestored, IsUnserved, ServeStoredInTurn}
use Rattle.service_forms.proofs.Judged.{on_servers}
use Rattle.service_forms.proofs.Listened.{listened_service, stopped_service}
use Rattle.service_forms.proofs.stored.serve.Goals as goal

pub returns-in-Ok-clause-ends : goal.returns-in-Ok-clause-ends
returns-in-Ok-clause-ends g c =
    listened_service (g.F.Texts.is_unreadable c.args.files.now) (setup_view c.args.setup) c.args.turns.listen.now (Some c.args.path.now) (ServeStoredInTurn g.F.Store.DocumentStore.recovers (hub_view c.in-Ok.hub.hub) c.args.turns.accept) c.serve_in_turn.result c.in-Ok.ensures.order c.serve_in_turn.ensures

pub returns-in-Err-clause-ends : goal.returns-in-Err-clause-ends
returns-in-Err-clause-ends g c =
    stopped_service (g.F.Texts.is_unreadable c.args.files.now) (setup_view c.args.setup) (Some c.args.turns.listen.now) c.in-Err.stop (c.in-Err.ensures.reading (Some c.args.turns.listen.now)) c.in-Err.ensures.order

pub returns-in-Ok-clause-kept : goal.returns-in-Ok-clause-kept
returns-in-Ok-clause-kept g c =
    on_servers (g.F.Texts.text_at c.args.files.now) (setup_view c.args.setup) (λ server. OnStanding server (λ ks. HasRestored ks (hub_view c.in-Ok.hub.hub)))
    (λ server. EndsStoredServing c.args.path.now g.F.Store.DocumentStore.recovers c.args.turns.listen.now c.args.turns.accept server c.serve_in_turn.result)
    (λ server x. inr (record { registries = x.registries; stands = x.stands; serving = hub_view c.in-Ok.hub.hub; restored = x.holds; holds = c.serve_in_turn.ensures })) c.in-Ok.ensures.ok

pub returns-in-Err-clause-kept : goal.returns-in-Err-clause-kept
returns-in-Err-clause-kept g c =
    on_servers (g.F.Texts.text_at c.args.files.now) (setup_view c.args.setup) (λ server. IsUnserved c.args.path.now server c.in-Err.stop)
    (λ server. EndsStoredServing c.args.path.now g.F.Store.DocumentStore.recovers c.args.turns.listen.now c.args.turns.accept server (Err c.in-Err.stop)) (λ server unserved. inl unserved) c.in-Err.ensures.err

pub returns-in-Err-clause-shut : goal.returns-in-Err-clause-shut
returns-in-Err-clause-shut g c = λ shut. c.in-Err.ensures.reading None
