use Rattle.stored_rows.proofs.RestoredRows.{one_result}
use Rattle.stored_rows.proofs.laws.rows_give_one_result.Goals as goal

pub returns : goal.returns
returns c = one_result
