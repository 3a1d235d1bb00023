use Rattle.definition_laws.proofs.Reports.{failing_annotates_nothing}
use Rattle.definition_laws.proofs.applications.failing_annotates_nothing.Goals as goal

pub returns : goal.returns
returns c = failing_annotates_nothing
