use Rattle.std.proofs.Common.{◌≡◌, None, refl, Err, inl, inr}
use Rattle.command_line.specs.Calls.{setup_view}
use Rattle.tenant_hub.specs.Hubs.{hub_view}
use Rattle.service_forms.specs.Endings.{files_of}
use Rattle.service_forms.specs.Services.{OnStanding}
use Rattle.service_forms.specs.Stored.{EndsStoredRun, HasRestored, IsUnserved}
use Rattle.service_forms.proofs.Judged.{on_servers}
use Rattle.service_forms.proofs.Listened.{ended_service, stopped_service}
use Rattle.service_forms.proofs.stored.run.Goals as goal

pub returns-in-Ok-clause-ends : goal.returns-in-Ok-clause-ends
returns-in-Ok-clause-ends g c =
    ended_service (g.F.Texts.is_unreadable c.args.files.now) (setup_view c.args.setup) None c.run_over.result c.in-Ok.ensures.order (c.run_over.ensures.reading (files_of (setup_view c.args.setup))) c.run_over.ensures.status

pub returns-in-Err-clause-ends : goal.returns-in-Err-clause-ends
returns-in-Err-clause-ends g c =
    stopped_service (g.F.Texts.is_unreadable c.args.files.now) (setup_view c.args.setup) None c.in-Err.stop (c.in-Err.ensures.reading None) c.in-Err.ensures.order

pub returns-in-Ok-clause-kept : goal.returns-in-Ok-clause-kept
returns-in-Ok-clause-kept g c =
    on_servers (g.F.Texts.text_at c.args.files.now) (setup_view c.args.setup) (λ server. OnStanding server (λ ks. HasRestored ks (hub_view c.in-Ok.hub.hub)))
    (λ server. EndsStoredRun c.args.path.now g.F.Store.DocumentStore.recovers server (g.R.ByteReader.reads c.args.reader.now) (g.W.ByteWriter.writes c.args.writer.now) c.run_over.result (g.R.ByteReader.reads c.run_over.new.reader) (g.W.ByteWriter.writes c.run_over.new.writer))
    (λ server x. inr (record { registries = x.registries; stands = x.stands; serving = hub_view c.in-Ok.hub.hub; restored = x.holds; holds = c.run_over.ensures.ran })) c.in-Ok.ensures.ok

pub returns-in-Err-clause-kept : goal.returns-in-Err-clause-kept
returns-in-Err-clause-kept g c =
    on_servers (g.F.Texts.text_at c.args.files.now) (setup_view c.args.setup) (λ server. IsUnserved c.args.path.now server c.in-Err.stop)
    (λ server. EndsStoredRun c.args.path.now g.F.Store.DocumentStore.recovers server (g.R.ByteReader.reads c.args.reader.now) (g.W.ByteWriter.writes c.args.writer.now) (Err c.in-Err.stop) (g.R.ByteReader.reads c.args.reader.now) (g.W.ByteWriter.writes c.args.writer.now)) (λ server unserved. inl (unserved, refl, refl)) c.in-Err.ensures.err

pub returns-in-Err-clause-shut : goal.returns-in-Err-clause-shut
returns-in-Err-clause-shut g c = λ shut. c.in-Err.ensures.reading None
