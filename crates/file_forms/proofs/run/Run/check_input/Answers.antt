use Rattle.std.proofs.Common.{sym}
use Rattle.file_forms.specs.Subjects.{OfInput}
use Rattle.file_forms.proofs.Going.{along}
use Rattle.file_forms.proofs.run.Run.check_input.Goals as goal

pub returns-then-lines : goal.returns-then-lines
returns-then-lines g c = along (λ b. OfInput b (g.I.Read.remaining c.args.input.now)) _ _ _ _ (sym c.if-lines.true) c.check_lines.ensures

pub returns-else-lines : goal.returns-else-lines
returns-else-lines g c = along (λ b. OfInput b (g.I.Read.remaining c.args.input.now)) _ _ _ _ (sym c.if-lines.false) c.check_whole_input.ensures
