use Rattle.std.proofs.Common.{arith, sym, subst, ◌∙◌}
use Rattle.sqlite_trees.specs.View.{IsClean}
use Rattle.document_file.specs.Entries.{key_of, HaveOneAt}
use Rattle.document_file.proofs.Rows.{delete_is_delete, one_entry}
use Rattle.document_file.proofs.files.DocumentFileDocumentStore.delete.Goals as goal

pub returns-in-Ok-clause-ok : goal.returns-in-Ok-clause-ok
returns-in-Ok-clause-ok g c rs up held clean sound =
    let tenant = c.args.tenant.now in
    let uri = c.args.uri.now in
    let before : IsClean (g.S.Store.view c.args.self.now.store) = omega (arith, c.delete_row.ensures.quiet.clean) in
    let are = held before (c.in-Ok.ensures.sound clean) in
    c.in-Ok.ensures.ok clean (subst (HaveOneAt (key_of tenant uri)) (sym are) (one_entry tenant uri rs up)) ∙ rw are (delete_is_delete tenant uri rs)
