use Rattle.stored_rows.proofs.RegistryRows.{rows_ascend}
use Rattle.stored_rows.proofs.laws.rows_ascend.Goals as goal

pub returns : goal.returns
returns c = rows_ascend
