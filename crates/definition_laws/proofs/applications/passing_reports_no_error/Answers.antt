use Rattle.definition_laws.proofs.Reports.{passing_reports_no_error}
use Rattle.definition_laws.proofs.applications.passing_reports_no_error.Goals as goal

pub returns : goal.returns
returns c = passing_reports_no_error
