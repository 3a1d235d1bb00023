use Rattle.std.proofs.Common.{arith, ◌∙◌}
use Rattle.sqlite_trees.specs.View.{IsClean}
use Rattle.stored_rows.specs.RowViews.{row_ref_view}
use Rattle.document_file.proofs.Rows.{insert_is_put}
use Rattle.document_file.proofs.files.DocumentFileDocumentStore.insert.Goals as goal

pub returns-in-Ok-clause-ok : goal.returns-in-Ok-clause-ok
returns-in-Ok-clause-ok g c rs up none held clean sound =
    let before : IsClean (g.S.Store.view c.args.self.now.store) = omega (arith, c.insert_row.ensures.quiet.clean) in
    c.in-Ok.ensures.ok clean ∙ rw (held before (c.in-Ok.ensures.sound clean)) (insert_is_put (row_ref_view c.args.row) rs up none)
