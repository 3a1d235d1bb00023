use Rattle.stored_rows.proofs.RowsPutBack.{rows_give_back}
use Rattle.stored_rows.proofs.laws.rows_give_registries_back.Goals as goal

pub returns : goal.returns
returns c = rows_give_back
