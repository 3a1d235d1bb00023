use Rattle.stored_rows.proofs.NewRows.{new_documents_have_no_row}
use Rattle.stored_rows.proofs.laws.new_documents_have_no_row.Goals as goal

pub returns : goal.returns
returns c = new_documents_have_no_row
