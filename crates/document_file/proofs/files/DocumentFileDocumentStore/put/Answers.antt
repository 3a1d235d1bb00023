use Rattle.std.proofs.Common.{arith, sym, subst, ◌∙◌}
use Rattle.sqlite_trees.specs.View.{IsClean}
use Rattle.stored_rows.specs.RowViews.{row_ref_view}
use Rattle.document_file.specs.Entries.{key_of, HaveOneAt}
use Rattle.document_file.proofs.Rows.{one_entry, put_is_put}
use Rattle.document_file.proofs.files.DocumentFileDocumentStore.put.Goals as goal

pub returns-in-Ok-clause-ok : goal.returns-in-Ok-clause-ok
returns-in-Ok-clause-ok g c rs up held clean sound =
    let r = row_ref_view c.args.row in
    let before : IsClean (g.S.Store.view c.args.self.now.store) = omega (arith, c.put_row.ensures.quiet.clean) in
    let are = held before (c.in-Ok.ensures.sound clean) in
    c.in-Ok.ensures.ok clean (subst (HaveOneAt (key_of r.tenant r.uri)) (sym are) (one_entry r.tenant r.uri rs up)) ∙ rw are (put_is_put r rs up)
