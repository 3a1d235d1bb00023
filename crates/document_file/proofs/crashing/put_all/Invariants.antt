use Rattle.std.proofs.Common.{take, List}
use Rattle.stored_rows.specs.Rows.{Ascend, Row}
use Rattle.document_file.specs.Puts.{all_put}
use Rattle.document_file.proofs.crashing.put_all.Given as goal

abbrev pub invariant-loop-row : goal.invariant-loop-row
invariant-loop-row g l =
    ((before : List Row) → Ascend before → g.D.DocumentStore.holds l.fn.store before
    → g.D.DocumentStore.holds l.store (all_put (take l.row-index l.rows) before))
    × ((found : List Row) → g.D.DocumentStore.recovers l.store found → g.D.DocumentStore.recovers l.fn.store found)
