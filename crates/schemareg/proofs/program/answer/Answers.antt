use Rattle.std.proofs.Common.{◌∙◌, Ok, Err, map, subst, sym}
use Rattle.std.specs.Process.{exit_status}
use Rattle.command_line.specs.Calls.{faults_of}
use Rattle.service_forms.specs.Endings.{EndsReading, address_of, names_of}
use Rattle.service_forms.specs.Services.{EndsRun, RunsWith}
use Rattle.service_forms.specs.Stored.{EndsAsked, EndsStoredRun, RunsStoredWith}
use Rattle.schemareg.specs.Answers.{EndsBy, EndsWith}
use Rattle.schemareg.proofs.Carried.{by_carried_out}
use Rattle.schemareg.proofs.Ended.{ended_with, on_checks, on_runs, run_ended, run_stopped, stopped_with, told_with}
use Rattle.schemareg.proofs.EndedStored.{not_stopped, stored_ended, stored_stopped}
use Rattle.schemareg.proofs.Formed.{ended_in_order, stopped_in_order}
use Rattle.schemareg.proofs.Mistakes.{mistaken}
use Rattle.schemareg.proofs.program.answer.Goals as goal

pub returns-clause-mistakes : goal.returns-clause-mistakes
returns-clause-mistakes g c = λ m.
    c.from-in-Err.ensures ∙ (c.explain.ensures.error (mistaken (faults_of (map g.S.AsStr.text c.args.words.now)) c.in-Err.stop m c.in-Err.ensures.found)).0

pub returns-in-Ok-clause-calls : goal.returns-in-Ok-clause-calls
returns-in-Ok-clause-calls g c = λ call m.
    let before = g.O.ByteWriter.writes c.args.console.now.output.stream in
    let after = g.O.ByteWriter.writes c.obey.new.console.output.stream in
    on_checks (g.F.Texts.text_at c.args.files.now) (g.I.Read.remaining c.args.input.now) call (λ check. EndsBy check before (Ok c.in-Ok.status) after)
    (λ check. EndsWith check before (exit_status c.from.result) after)
    (λ check. ended_with check before after c.in-Ok.status (exit_status c.from.result) c.from.ensures) (c.in-Ok.ensures.calls call m)

pub returns-in-Ok-clause-ran : goal.returns-in-Ok-clause-ran
returns-in-Ok-clause-ran g c = λ call m.
    let reads = g.I.ByteReader.reads c.args.input.now in
    let writes = g.O.ByteWriter.writes c.args.console.now.output.stream in
    let more = g.I.ByteReader.reads c.obey.new.input in
    let others = g.O.ByteWriter.writes c.obey.new.console.output.stream in
    on_runs (g.F.Texts.text_at c.args.files.now) call (λ server. EndsRun server reads writes (Ok c.in-Ok.status) more others)
    (λ server. RunsWith server reads writes (exit_status c.from.result) more others)
    (λ path server. EndsStoredRun path g.F.Store.DocumentStore.recovers server reads writes (Ok c.in-Ok.status) more others)
    (λ path server. RunsStoredWith path g.F.Store.DocumentStore.recovers server reads writes (exit_status c.from.result) more others)
    (λ server. run_ended server reads writes more others c.in-Ok.status (exit_status c.from.result) c.from.ensures)
    (λ path server. stored_ended path g.F.Store.DocumentStore.recovers server reads writes more others c.in-Ok.status (exit_status c.from.result) c.from.ensures)
    (c.in-Ok.ensures.ran call m)

pub returns-in-Ok-clause-alone : goal.returns-in-Ok-clause-alone
returns-in-Ok-clause-alone g c = λ call m zero.
    subst (λ n. EndsAsked g.F.Store.DocumentStore.recovers (g.F.Texts.text_at c.args.files.now) call (Ok n)) (sym c.from.ensures ∙ zero) (c.in-Ok.ensures.alone call m)

pub returns-clause-alone : goal.returns-clause-alone
returns-clause-alone g c = λ call m zero.
    by_carried_out _ call (λ x. EndsReading (names_of x) (address_of x) (Err c.in-Err.stop)) _
    (λ x reading. not_stopped (names_of x) (address_of x) c.in-Err.stop (exit_status c.from-in-Err.result) _ reading
    (λ error. c.from-in-Err.ensures ∙ (c.explain.ensures.error error).0) zero)
    (c.in-Err.ensures.reading call m)

pub returns-in-Ok-clause-unread : goal.returns-in-Ok-clause-unread
returns-in-Ok-clause-unread g c = λ call m.
    ended_in_order _ (g.F.Texts.is_unreadable c.args.files.now) (g.F.Forms.disk c.args.files.now) _ _ (g.O.ByteWriter.writes c.args.console.now.output.stream)
    (g.O.ByteWriter.writes c.obey.new.console.output.stream) c.in-Ok.status (exit_status c.from.result) call c.from.ensures (c.in-Ok.ensures.order call m)

pub returns-clause-unread : goal.returns-clause-unread
returns-clause-unread g c = λ call m.
    stopped_in_order _ (g.F.Texts.is_unreadable c.args.files.now) (g.F.Forms.disk c.args.files.now) _ _ (g.O.ByteWriter.writes c.args.console.now.output.stream)
    (g.O.ByteWriter.writes c.obey.new.console.output.stream) (g.O.ByteWriter.writes c.explain.new.console.output.stream) c.in-Err.stop (exit_status c.from-in-Err.result) call
    (told_with g.O.ByteWriter.writes c.in-Err.stop c.explain.result (exit_status c.from-in-Err.result) c.obey.new.console.output.stream c.explain.new.console.output.stream
    c.from-in-Err.ensures c.explain.ensures.error) (c.in-Err.ensures.order call m)

pub returns-clause-calls : goal.returns-clause-calls
returns-clause-calls g c = λ call m.
    let before = g.O.ByteWriter.writes c.args.console.now.output.stream in
    let after = g.O.ByteWriter.writes c.obey.new.console.output.stream in
    let final = g.O.ByteWriter.writes c.explain.new.console.output.stream in
    on_checks (g.F.Texts.text_at c.args.files.now) (g.I.Read.remaining c.args.input.now) call (λ check. EndsBy check before (Err c.in-Err.stop) after)
    (λ check. EndsWith check before (exit_status c.from-in-Err.result) final)
    (λ check. stopped_with check before after final c.in-Err.stop (exit_status c.from-in-Err.result)
    (told_with g.O.ByteWriter.writes c.in-Err.stop c.explain.result (exit_status c.from-in-Err.result) c.obey.new.console.output.stream c.explain.new.console.output.stream c.from-in-Err.ensures c.explain.ensures.error))
    (c.in-Err.ensures.calls call m)

pub returns-clause-ran : goal.returns-clause-ran
returns-clause-ran g c = λ call m.
    let reads = g.I.ByteReader.reads c.args.input.now in
    let writes = g.O.ByteWriter.writes c.args.console.now.output.stream in
    let more = g.I.ByteReader.reads c.obey.new.input in
    let others = g.O.ByteWriter.writes c.obey.new.console.output.stream in
    let final = g.O.ByteWriter.writes c.explain.new.console.output.stream in
    let told = told_with g.O.ByteWriter.writes c.in-Err.stop c.explain.result (exit_status c.from-in-Err.result) c.obey.new.console.output.stream c.explain.new.console.output.stream c.from-in-Err.ensures c.explain.ensures.error in
    on_runs (g.F.Texts.text_at c.args.files.now) call (λ server. EndsRun server reads writes (Err c.in-Err.stop) more others)
    (λ server. RunsWith server reads writes (exit_status c.from-in-Err.result) more final)
    (λ path server. EndsStoredRun path g.F.Store.DocumentStore.recovers server reads writes (Err c.in-Err.stop) more others)
    (λ path server. RunsStoredWith path g.F.Store.DocumentStore.recovers server reads writes (exit_status c.from-in-Err.result) more final)
    (λ server. run_stopped server reads writes more others final c.in-Err.stop (exit_status c.from-in-Err.result) told)
    (λ path server. stored_stopped path g.F.Store.DocumentStore.recovers server reads writes more others final c.in-Err.stop (exit_status c.from-in-Err.result) told)
    (c.in-Err.ensures.ran call m)
