use Rattle.std.proofs.Common.{◌≡◌, Ok, inl, inr, refl}
use Rattle.command_line.specs.Calls.{setup_view}
use Rattle.tenant_hub.specs.Hubs.{hub_view}
use Rattle.service_forms.specs.Services.{IsRefusedStart}
use Rattle.service_forms.specs.Stored.{IsUnserved}
use Rattle.service_forms.specs.declared.stop.Stop.TheVariants.{Store}
use Rattle.service_forms.proofs.Judged.{on_servers}
use Rattle.service_forms.proofs.stored.open_hub.Goals as goal

pub returns-in-Err-clause-err : goal.returns-in-Err-clause-err
returns-in-Err-clause-err g c =
    on_servers (g.F.Texts.text_at c.args.files.now) (setup_view c.args.setup) (λ server. IsRefusedStart server c.in-Err.stop) (λ server. IsUnserved c.args.path.now server c.in-Err.stop)
    (λ server refused. inl refused) c.in-Err.ensures.err

pub returns-in-Err-restore-clause-err : goal.returns-in-Err-restore-clause-err
returns-in-Err-restore-clause-err g c =
    on_servers (g.F.Texts.text_at c.args.files.now) (setup_view c.args.setup) (λ server. server ≡ Ok (hub_view c.in-Ok.hub))
    (λ server. IsUnserved c.args.path.now server (Store c.in-Err-restore.stop))
    (λ server e. inr (record { registries = hub_view c.in-Ok.hub; stands = e; holds = (c.in-Err-restore.stop, refl, c.in-Err-restore.ensures.err) })) c.in-Ok.ensures.ok
