use Rattle.stored_rows.proofs.RestoredRows.{calls_keep}
use Rattle.stored_rows.proofs.laws.calls_keep_what_is_emptied.Goals as goal

pub returns : goal.returns
returns c = calls_keep
