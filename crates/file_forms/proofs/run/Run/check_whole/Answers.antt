use Rattle.std.proofs.Common.{subst, sym}
use Rattle.file_checks.specs.FileSources.{checker_linked}
use Rattle.file_forms.proofs.Going.{no_whole, so, whole_of}
use Rattle.file_forms.proofs.run.Run.check_whole.Goals as goal

pub returns-in-Ok : goal.returns-in-Ok
returns-in-Ok g c =
    let held = g.F.Folders.holds c.args.files.now c.args.path.now in
    so _ _ _ _ (whole_of c.args.path.now c.as_slice.result.now held (subst held (sym c.as_slice.ensures.value) c.in-Ok.ensures.ok)) c.check_text.ensures

pub returns-in-Err : goal.returns-in-Err
returns-in-Err g c =
    so _ _ _ _ (no_whole c.args.path.now (g.F.Folders.holds c.args.files.now c.args.path.now)) (c.refuse_unread.ensures (checker_linked c.args.checker.now) c.in-Err.ensures.err)
