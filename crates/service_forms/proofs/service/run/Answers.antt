use Rattle.std.proofs.Common.{◌≡◌, Ok, Err, None, sym, subst}
use Rattle.command_line.specs.Calls.{setup_view}
use Rattle.tenant_hub.specs.Hubs.{hub_view}
use Rattle.service_forms.specs.Endings.{files_of}
use Rattle.service_forms.specs.Services.{EndsRun, IsRefusedStart}
use Rattle.service_forms.proofs.Judged.{on_servers}
use Rattle.service_forms.proofs.Listened.{ended_service, stopped_service, unbegun_run}
use Rattle.service_forms.proofs.service.run.Goals as goal

pub returns-in-Ok-clause-ends : goal.returns-in-Ok-clause-ends
returns-in-Ok-clause-ends g c =
    ended_service (g.F.Texts.is_unreadable c.args.files.now) (setup_view c.args.setup) None c.run_over.result c.in-Ok.ensures.order
    (c.run_over.ensures.reading (files_of (setup_view c.args.setup))) c.run_over.ensures.status

pub returns-in-Err-clause-ends : goal.returns-in-Err-clause-ends
returns-in-Err-clause-ends g c =
    stopped_service (g.F.Texts.is_unreadable c.args.files.now) (setup_view c.args.setup) None c.in-Err.stop (c.in-Err.ensures.reading None) c.in-Err.ensures.order

pub returns-in-Ok-clause-ran : goal.returns-in-Ok-clause-ran
returns-in-Ok-clause-ran g c =
    on_servers (g.F.Texts.text_at c.args.files.now) (setup_view c.args.setup) (λ server. server ≡ Ok (hub_view c.in-Ok.hub))
    (λ server. EndsRun server (g.R.ByteReader.reads c.args.reader.now) (g.W.ByteWriter.writes c.args.writer.now) c.run_over.result (g.R.ByteReader.reads c.run_over.new.reader) (g.W.ByteWriter.writes c.run_over.new.writer))
    (λ server made. subst (λ s. EndsRun s (g.R.ByteReader.reads c.args.reader.now) (g.W.ByteWriter.writes c.args.writer.now) c.run_over.result (g.R.ByteReader.reads c.run_over.new.reader) (g.W.ByteWriter.writes c.run_over.new.writer)) (sym made) c.run_over.ensures.ran)
    c.in-Ok.ensures.ok

pub returns-in-Err-clause-ran : goal.returns-in-Err-clause-ran
returns-in-Err-clause-ran g c =
    let reads = g.R.ByteReader.reads c.args.reader.now in
    let writes = g.W.ByteWriter.writes c.args.writer.now in
    on_servers (g.F.Texts.text_at c.args.files.now) (setup_view c.args.setup) (λ server. IsRefusedStart server c.in-Err.stop)
    (λ server. EndsRun server reads writes (Err c.in-Err.stop) reads writes) (λ server refused. unbegun_run c.in-Err.stop server reads writes refused) c.in-Err.ensures.err
