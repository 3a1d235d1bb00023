use Rattle.std.proofs.Common.{arith}
use Rattle.sqlite_trees.specs.View.{IsClean}
use Rattle.stored_rows.specs.RowViews.{row_ref_view}
use Rattle.document_file.specs.Entries.{entry_of, key_of}
use Rattle.document_file.proofs.Turns.{inserted, on_ok}
use Rattle.document_file.proofs.tables.put_row.Goals as goal

pub returns-clause-ok : goal.returns-clause-ok
returns-clause-ok g c = on_ok c.insert.result (λ sets clean one.
    let row = c.args.row in
    let cleared : IsClean (g.S.Store.view c.clear.new.store) = omega (arith, c.insert.ensures.quiet.clean) in
    let rows = rw c.in_ok-key.ensures at (c.in_ok-clear.ensures.ok cleared) in
    inserted (key_of row.tenant.now row.uri.now) (entry_of (row_ref_view row)) ((g.S.Store.view c.args.store.now).trees 0) c.clear.ensures.table
    (rw c.in_ok-entry.ensures at (sets clean)) (rows one)) c.insert.ensures.ok
