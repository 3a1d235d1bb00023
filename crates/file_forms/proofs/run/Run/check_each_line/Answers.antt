use Rattle.file_checks.specs.FileSources.{checker_linked}
use Rattle.file_forms.proofs.Going.{go_on, so, stays}
use Rattle.file_forms.proofs.ReadLines.{all_read, cut_off, none_read, one_more_read}
use Rattle.file_forms.proofs.run.Run.check_each_line.Goals as goal

pub loop-index-init : goal.loop-index-init
loop-index-init g c = stays _ _ (none_read c.args.path.now _)

pub loop-index-preserved : goal.loop-index-preserved
loop-index-preserved g c =
    go_on _ _ _ _ _ _
    (λ xs ys read more. one_more_read c.args.path.now _ _ _ c.loop-index.index c.in-Ok-true.field-0 _ _ xs ys read c.in-Ok-true.field-0-test c.in-Ok-true.ensures.ok c.as_slice.ensures.value more)
    c.loop-index.invariant c.check_line.ensures

pub returns-in-Ok-false : goal.returns-in-Ok-false
returns-in-Ok-false g c =
    so _ _ _ _ (λ xs read. all_read c.args.path.now _ _ _ c.loop-index.index c.in-Ok-false.field-0 _ xs read c.in-Ok-false.field-0-test c.in-Ok-false.ensures.ok) c.loop-index.invariant

pub returns-in-Err : goal.returns-in-Err
returns-in-Err g c =
    go_on _ _ _ _ _ _ (λ xs ys read e. cut_off c.args.path.now _ _ c.loop-index.index xs ys read e) c.loop-index.invariant
    (c.refuse_unread.ensures (checker_linked c.loop-index.checker) c.in-Err.ensures.err)

pub returns : goal.returns
returns g c =
    go_on _ _ _ _ _ _ (λ xs ys read e. cut_off c.args.path.now _ _ c.loop-index.index xs ys read e) c.loop-index.invariant
    (c.refuse_unread-2.ensures (checker_linked c.loop-index.checker) c.cannot_read.ensures)
