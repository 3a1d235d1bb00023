use Rattle.file_checks.specs.FileSources.{checker_linked}
use Rattle.file_forms.proofs.Going.{so}
use Rattle.file_forms.proofs.ReadLines.{lines_of, lines_of_none}
use Rattle.file_forms.proofs.run.Run.check_lines_of.Goals as goal

pub returns-in-Ok : goal.returns-in-Ok
returns-in-Ok g c = so _ _ _ _ (lines_of c.args.path.now (g.F.Folders.holds c.args.files.now c.args.path.now) _ c.in-Ok.ensures.ok) c.check_lines.ensures

pub returns-in-Err : goal.returns-in-Err
returns-in-Err g c =
    so _ _ _ _ (lines_of_none c.args.path.now (g.F.Folders.holds c.args.files.now c.args.path.now))
    (c.refuse_unread.ensures (checker_linked c.args.checker.now) c.in-Err.ensures.err)
