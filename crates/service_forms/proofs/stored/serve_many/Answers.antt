use Rattle.std.proofs.Common.{◌≡◌, None, Some, Err, inl, inr}
use Rattle.command_line.specs.Calls.{setup_view}
use Rattle.tenant_hub.specs.Hubs.{hub_view}
use Rattle.service_forms.specs.Services.{AreServedSo, OnStanding}
use Rattle.service_forms.specs.Stored.{EndsStoredMany, HasRestored, IsUnserved, ServesFound}
use Rattle.service_forms.proofs.Judged.{on_servers}
use Rattle.service_forms.proofs.Listened.{listened_service, stopped_service}
use Rattle.service_forms.proofs.Restored.{found_many}
use Rattle.service_forms.proofs.stored.serve_many.Goals as goal

pub returns-in-Ok-clause-ends : goal.returns-in-Ok-clause-ends
returns-in-Ok-clause-ends g c =
    listened_service (g.F.Texts.is_unreadable c.args.files.now) (setup_view c.args.setup) c.args.service.listen.now (Some c.args.path.now) (AreServedSo (ServesFound g.F.Store.DocumentStore.recovers c.in-Ok.hub.store (hub_view c.in-Ok.hub.hub))) c.serve_at.result c.in-Ok.ensures.order c.serve_at.ensures

pub returns-in-Err-clause-ends : goal.returns-in-Err-clause-ends
returns-in-Err-clause-ends g c =
    stopped_service (g.F.Texts.is_unreadable c.args.files.now) (setup_view c.args.setup) (Some c.args.service.listen.now) c.in-Err.stop (c.in-Err.ensures.reading (Some c.args.service.listen.now)) c.in-Err.ensures.order

pub returns-in-Ok-clause-kept : goal.returns-in-Ok-clause-kept
returns-in-Ok-clause-kept g c =
    on_servers (g.F.Texts.text_at c.args.files.now) (setup_view c.args.setup) (λ server. OnStanding server (λ ks. HasRestored ks (hub_view c.in-Ok.hub.hub)))
    (λ server. EndsStoredMany c.args.path.now g.F.Store.DocumentStore.recovers c.args.service.listen.now server c.serve_at.result)
    (λ server x. inr (record { registries = x.registries; stands = x.stands; serving = hub_view c.in-Ok.hub.hub; restored = x.holds; holds = found_many g.F.Store.DocumentStore.recovers c.in-Ok.hub.store (hub_view c.in-Ok.hub.hub) c.args.service.listen.now (Some c.args.path.now) c.serve_at.result c.in-Ok.ensures.found c.serve_at.ensures })) c.in-Ok.ensures.ok

pub returns-in-Err-clause-kept : goal.returns-in-Err-clause-kept
returns-in-Err-clause-kept g c =
    on_servers (g.F.Texts.text_at c.args.files.now) (setup_view c.args.setup) (λ server. IsUnserved c.args.path.now server c.in-Err.stop)
    (λ server. EndsStoredMany c.args.path.now g.F.Store.DocumentStore.recovers c.args.service.listen.now server (Err c.in-Err.stop)) (λ server unserved. inl unserved) c.in-Err.ensures.err

pub returns-in-Err-clause-shut : goal.returns-in-Err-clause-shut
returns-in-Err-clause-shut g c = λ shut. c.in-Err.ensures.reading None
