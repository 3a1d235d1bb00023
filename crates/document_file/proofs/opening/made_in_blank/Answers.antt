use Rattle.document_file.proofs.Found.{clean_files}
use Rattle.document_file.proofs.opening.made_in_blank.Goals as goal

pub returns-in-Ok-clause-honest : goal.returns-in-Ok-clause-honest
returns-in-Ok-clause-honest g c clean = rw (clean_files c.in_ok-unopened.field-0, c.in_ok-unopened.ensures.files) at (c.in-Ok.ensures.honest clean)
