use Rattle.document_file.proofs.tables.delete_row.Goals as goal

pub returns-clause-ok : goal.returns-clause-ok
returns-clause-ok g c = rw c.in_ok-key.ensures at c.clear.ensures.ok
