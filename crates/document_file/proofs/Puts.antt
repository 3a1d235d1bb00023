-- One more row that is put.
use Rattle.std.proofs.Common.{get_or, length, take, List, [], ℕ, ◌+◌, ◌<◌, ◌∷◌}
use Rattle.std.proofs.lemmas.List.Sums.{fold_more}
use Rattle.stored_rows.proofs.RowOrder.{ascend_with}
use Rattle.stored_rows.specs.RowViews.{row_ref_view}
use Rattle.stored_rows.specs.Rows.{with_row, Ascend, Row}
use Rattle.stored_rows.specs.declared.rows.RowRef.{RowRef}
use Rattle.document_file.specs.Puts.{all_put}

pub all_ascend : (before : List Row) (puts : List RowRef) → Ascend before → Ascend (all_put puts before)
all_ascend before [] up = up
all_ascend before (p ∷ ps) up = all_ascend (with_row (row_ref_view p) before) ps (ascend_with (row_ref_view p) before up)

pub put_next : (P : List Row → Type 0) (before : List Row) (puts : List RowRef) (i : ℕ) (d : RowRef) → i < length puts
    → P (with_row (row_ref_view (get_or puts i d)) (all_put (take i puts) before)) → P (all_put (take (i + 1) puts) before)
put_next P before puts i d more now = rw (fold_more (λ kept r. with_row (row_ref_view r) kept) before puts i d more) now
