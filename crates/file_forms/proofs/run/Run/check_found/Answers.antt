use Rattle.file_checks.specs.FileSources.{checker_linked}
use Rattle.file_forms.proofs.Going.{found_in, go_on}
use Rattle.file_forms.proofs.run.Run.check_found.Goals as goal

pub returns : goal.returns
returns g c =
    go_on _ _ _ _ _ _ (found_in (g.F.Folders.holds c.args.files.now) c.args.lines c.args.found.now.unread.items c.args.found.now.files.items _ _ c.as_slice.ensures.value c.as_slice-2.ensures.value)
    (c.refuse_each.ensures (checker_linked c.args.checker.now)) c.check_files.ensures
