use Rattle.std.proofs.Common.{inl, inr, map, string_bytes}
use Rattle.file_checks.specs.FileSources.{checker_linked}
use Rattle.file_forms.proofs.Going.{files_of_path, so}
use Rattle.file_forms.proofs.run.Run.check_path.Goals as goal

pub returns-in-Ok : goal.returns-in-Ok
returns-in-Ok g c =
    so _ _ _ _ (files_of_path (g.F.Folders.holds c.args.files.now) (g.F.Folders.lists c.args.files.now) c.args.lines c.args.path.now _ _ _ c.endings.ensures c.in-Ok.ensures.ok) c.check_found.ensures

pub returns-in-Err : goal.returns-in-Err
returns-in-Err g c =
    so _ _ _ _ (λ xs are. inr are) (c.refuse_unread.ensures (checker_linked c.args.checker.now) c.in-Err.ensures.err)
