use Rattle.stored_rows.proofs.RestoredRows.{restored_rows}
use Rattle.stored_rows.proofs.laws.restored_rows_are_stored.Goals as goal

pub returns : goal.returns
returns c = restored_rows
