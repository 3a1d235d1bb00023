use Rattle.std.proofs.Common.{◌≡◌, codes, subst, sym}
use Rattle.std.specs.Option.{IfSome}
use Rattle.file_checks.specs.FileSources.{checker_linked}
use Rattle.file_forms.proofs.Going.{no_whole, so, whole_of}
use Rattle.file_forms.proofs.run.Run.check_whole_input.Goals as goal

pub returns-in-Ok : goal.returns-in-Ok
returns-in-Ok g c =
    so _ _ _ _
    (whole_of (codes "-") c.as_slice.result.now (λ text. IfSome (g.I.Read.remaining c.args.input.now) (λ left. text ≡ left))
    (subst (λ t. IfSome (g.I.Read.remaining c.args.input.now) (λ left. t ≡ left)) (sym c.as_slice.ensures.value) c.in-Ok.ensures.ok))
    c.check_text.ensures

pub returns-in-Err : goal.returns-in-Err
returns-in-Err g c =
    so _ _ _ _ (no_whole (codes "-") (λ text. IfSome (g.I.Read.remaining c.args.input.now) (λ left. text ≡ left)))
    (c.refuse_unread.ensures (checker_linked c.args.checker.now) c.in-Err.ensures.err)
