-- Rows that are put one after the other.
use Rattle.std.specs.Prelude.{fold, List}
use Rattle.stored_rows.specs.RowViews.{row_ref_view}
use Rattle.stored_rows.specs.Rows.{with_row, Row}
use Rattle.stored_rows.specs.declared.rows.RowRef.{RowRef}

abbrev pub all_put : List RowRef → List Row → List Row
all_put puts rows = fold (λ kept r. with_row (row_ref_view r) kept) rows puts
