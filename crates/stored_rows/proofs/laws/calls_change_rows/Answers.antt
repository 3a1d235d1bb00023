use Rattle.stored_rows.proofs.AnsweredRows.{calls_change_rows}
use Rattle.stored_rows.proofs.laws.calls_change_rows.Goals as goal

pub returns : goal.returns
returns c = calls_change_rows
