use Rattle.std.proofs.Common.{◌≡◌, None, Some, Ok, Err, inl, inr}
use Rattle.command_line.specs.Calls.{setup_view}
use Rattle.tenant_hub.specs.Hubs.{hub_view}
use Rattle.service_forms.specs.Services.{EndsServing, IsRefusedStart, ServeInTurn}
use Rattle.service_forms.proofs.Judged.{on_servers}
use Rattle.service_forms.proofs.Listened.{listened_service, stopped_service}
use Rattle.service_forms.proofs.service.serve.Goals as goal

pub returns-in-Ok-clause-ends : goal.returns-in-Ok-clause-ends
returns-in-Ok-clause-ends g c =
    listened_service (g.F.Texts.is_unreadable c.args.files.now) (setup_view c.args.setup) c.args.turns.listen.now None (ServeInTurn (hub_view c.in-Ok.hub) c.args.turns.accept) c.serve_at.result c.in-Ok.ensures.order c.serve_at.ensures

pub returns-in-Err-clause-ends : goal.returns-in-Err-clause-ends
returns-in-Err-clause-ends g c =
    stopped_service (g.F.Texts.is_unreadable c.args.files.now) (setup_view c.args.setup) (Some c.args.turns.listen.now) c.in-Err.stop
    (c.in-Err.ensures.reading (Some c.args.turns.listen.now)) c.in-Err.ensures.order

pub returns-in-Ok-clause-alone : goal.returns-in-Ok-clause-alone
returns-in-Ok-clause-alone g c =
    on_servers (g.F.Texts.text_at c.args.files.now) (setup_view c.args.setup) (λ server. server ≡ Ok (hub_view c.in-Ok.hub))
    (λ server. EndsServing c.args.turns.listen.now c.args.turns.accept server c.serve_at.result)
    (λ server e. inr (record { registries = hub_view c.in-Ok.hub; stands = e; holds = c.serve_at.ensures })) c.in-Ok.ensures.ok

pub returns-in-Err-clause-alone : goal.returns-in-Err-clause-alone
returns-in-Err-clause-alone g c =
    on_servers (g.F.Texts.text_at c.args.files.now) (setup_view c.args.setup) (λ server. IsRefusedStart server c.in-Err.stop)
    (λ server. EndsServing c.args.turns.listen.now c.args.turns.accept server (Err c.in-Err.stop)) (λ server refused. inl refused) c.in-Err.ensures.err
