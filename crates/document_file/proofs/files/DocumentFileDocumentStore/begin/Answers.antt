use Rattle.std.proofs.Common.{rules}
use Rattle.document_file.specs.Tables.{HasTable}
use Rattle.document_file.proofs.Seeks.{begun}
use Rattle.document_file.proofs.files.DocumentFileDocumentStore.begin.Goals as goal

pub returns-in-Ok-clause-read : goal.returns-in-Ok-clause-read
returns-in-Ok-clause-read g c clean =
    let table : HasTable (g.S.Store.view c.args.self.now.store) = search rules in
    begun (g.S.Store.view c.args.self.now.store) (g.S.Store.view c.seek.new.self) table (rw c.new-first.ensures at (c.in-Ok.ensures.ok clean))
