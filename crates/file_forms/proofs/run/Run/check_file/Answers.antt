use Rattle.std.proofs.Common.{sym}
use Rattle.file_forms.specs.Subjects.{OfFile}
use Rattle.file_forms.proofs.Going.{along}
use Rattle.file_forms.proofs.run.Run.check_file.Goals as goal

pub returns-then-lines : goal.returns-then-lines
returns-then-lines g c = along (λ b. OfFile (g.F.Folders.holds c.args.files.now) b c.args.path.now) _ _ _ _ (sym c.if-lines.true) c.check_lines_of.ensures

pub returns-else-lines : goal.returns-else-lines
returns-else-lines g c = along (λ b. OfFile (g.F.Folders.holds c.args.files.now) b c.args.path.now) _ _ _ _ (sym c.if-lines.false) c.check_whole.ensures
