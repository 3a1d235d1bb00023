use Rattle.std.proofs.Common.{subst}
use Rattle.schemareg.specs.Folders.{CarriedOut, is_folder_in}
use Rattle.schemareg.proofs.Ended.{every_run, unspelled, unspelled_run}
use Rattle.schemareg.proofs.EndedStored.{unspelled_asked, unspelled_stored}
use Rattle.schemareg.proofs.Formed.{InOrder, unspelled_in_order}
use Rattle.schemareg.proofs.program.obey.Goals as goal

pub returns-in_err-call-clause-ran : goal.returns-in_err-call-clause-ran
returns-in_err-call-clause-ran g c = λ call m.
    let lacks = c.in_err-call.ensures.calls call m in
    every_run (g.F.Texts.text_at c.args.files.now) call _ _
    (unspelled_run c.in_err-call.field-0.0 c.from_residual.result lacks c.from_residual.ensures.1
    (g.I.ByteReader.reads c.args.input.now) (g.O.ByteWriter.writes c.args.console.now.output.stream))
    (λ path. unspelled_stored path g.F.Store.DocumentStore.recovers c.from_residual.result (unspelled c.in_err-call.field-0.0 c.from_residual.result lacks c.from_residual.ensures.1)
    (g.I.ByteReader.reads c.args.input.now) (g.O.ByteWriter.writes c.args.console.now.output.stream))

pub returns-in_err-call-clause-alone : goal.returns-in_err-call-clause-alone
returns-in_err-call-clause-alone g c = λ call m.
    unspelled_asked g.F.Store.DocumentStore.recovers (g.F.Texts.text_at c.args.files.now) call c.from_residual.result
    (unspelled c.in_err-call.field-0.0 c.from_residual.result (c.in_err-call.ensures.calls call m) c.from_residual.ensures.1)

pub returns-in_err-call-clause-order : goal.returns-in_err-call-clause-order
returns-in_err-call-clause-order g c = λ call m.
    unspelled_in_order _ (g.F.Texts.is_unreadable c.args.files.now) (g.F.Forms.disk c.args.files.now) (g.I.Read.remaining c.args.input.now)
    (g.O.ByteWriter.writes c.args.console.now.output.stream) c.from_residual.result call
    (unspelled c.in_err-call.field-0.0 c.from_residual.result (c.in_err-call.ensures.calls call m) c.from_residual.ensures.1)

pub returns-clause-order : goal.returns-clause-order
returns-clause-order g c = λ call m.
    let files = c.args.files.now in
    let folders = is_folder_in (g.F.Texts.text_at files) (g.F.Texts.is_unreadable files) (g.F.Texts.folder_at files) in
    let before = g.O.ByteWriter.writes c.args.console.now.output.stream in
    let after = g.O.ByteWriter.writes c.carry_out.new.console.output.stream in
    subst (λ asked. CarriedOut folders asked (InOrder (g.F.Texts.is_unreadable files) (g.F.Forms.disk files) (g.I.Read.remaining c.args.input.now)
    (g.I.Read.remaining c.carry_out.new.input) before c.carry_out.result after)) (c.in_ok-call.ensures.calls call m) c.carry_out.ensures.order
