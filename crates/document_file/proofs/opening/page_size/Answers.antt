use Rattle.sqlite_wal.specs.Files.{seen_image}
use Rattle.document_file.proofs.Found.{named_pages}
use Rattle.document_file.proofs.opening.page_size.Goals as goal

pub returns-in-Ok-Some-clause-names : goal.returns-in-Ok-Some-clause-names
returns-in-Ok-Some-clause-names g c clean = named_pages (seen_image g.D.Disk c.args.files.now.log c.args.files.now.db) c.in-Ok-Some.size
    (rw c.in-Ok-Some.field-0-is at (c.in-Ok-Some.ensures.by_log clean)) (rw c.in-Ok-Some.field-0-is at (c.in-Ok-Some.ensures.by_file clean))
