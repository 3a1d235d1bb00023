use Rattle.stored_rows.proofs.RestoredRows.{restoring_keeps}
use Rattle.stored_rows.proofs.laws.restoring_keeps_what_is_emptied.Goals as goal

pub returns : goal.returns
returns c = restoring_keeps
