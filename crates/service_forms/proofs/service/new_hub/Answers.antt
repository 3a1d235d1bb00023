use Rattle.std.proofs.Common.{◌≡◌, Ok}
use Rattle.std.proofs.lemmas.Result.{IfErr-weaker, IfOk-weaker}
use Rattle.tenant_hub.specs.Hubs.{hub_view}
use Rattle.command_line.specs.Calls.{setup_view}
use Rattle.service_forms.specs.Endings.{files_of}
use Rattle.service_forms.specs.Services.{IsRefusedStart}
use Rattle.service_forms.proofs.Judged.{every_server, on_server, unread_start}
use Rattle.service_forms.proofs.Listened.{unread_reading}
use Rattle.service_forms.proofs.service.new_hub.Goals as goal

pub returns-in-Ok-clause-ok : goal.returns-in-Ok-clause-ok
returns-in-Ok-clause-ok g c = IfOk-weaker c.start_hub.result _ _
    (λ h made. on_server (g.F.Texts.text_at c.args.files.now) (setup_view c.args.setup) c.in-Ok.sources (λ server. server ≡ Ok (hub_view h)) c.in-Ok.ensures.ok made)
    c.start_hub.ensures.ok

pub returns-in-Ok-clause-err : goal.returns-in-Ok-clause-err
returns-in-Ok-clause-err g c = IfErr-weaker c.start_hub.result _ _
    (λ stop refused. on_server (g.F.Texts.text_at c.args.files.now) (setup_view c.args.setup) c.in-Ok.sources (λ server. IsRefusedStart server stop) c.in-Ok.ensures.ok refused)
    c.start_hub.ensures.err

pub returns-in-Ok-clause-reading : goal.returns-in-Ok-clause-reading
returns-in-Ok-clause-reading g c = λ address. c.start_hub.ensures.reading (files_of (setup_view c.args.setup)) address

pub returns-in-Err-clause-err : goal.returns-in-Err-clause-err
returns-in-Err-clause-err g c =
    every_server (g.F.Texts.text_at c.args.files.now) (setup_view c.args.setup) (λ server. IsRefusedStart server c.in-Err.stop)
    (λ server. unread_start (files_of (setup_view c.args.setup)) server c.in-Err.stop c.in-Err.ensures.err)

pub returns-in-Err-clause-reading : goal.returns-in-Err-clause-reading
returns-in-Err-clause-reading g c = λ address. unread_reading (files_of (setup_view c.args.setup)) address c.in-Err.stop c.in-Err.ensures.err
