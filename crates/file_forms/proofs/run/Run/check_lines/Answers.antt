use Rattle.file_checks.specs.FileSources.{checker_linked}
use Rattle.file_forms.specs.Subjects.{AreLines}
use Rattle.file_forms.proofs.Buffered.{buffered}
use Rattle.file_forms.proofs.Going.{along, so}
use Rattle.file_forms.proofs.ReadLines.{none_of_them}
use Rattle.file_forms.proofs.run.Run.check_lines.Goals as goal

pub returns-in-Ok : goal.returns-in-Ok
returns-in-Ok g c =
    along (AreLines c.args.path.now) _ _ _ _ (buffered (λ r. g.I.Read.remaining r.now) c.in-Ok.reader _ c.in-Ok.ensures.inner c.in-Ok.ensures.empty c.in-Ok.ensures.capacity) c.check_each_line.ensures

pub returns-in-Err : goal.returns-in-Err
returns-in-Err g c =
    so _ _ _ _ (none_of_them c.args.path.now _) (c.refuse_unread.ensures (checker_linked c.args.checker.now) c.unread.ensures)
