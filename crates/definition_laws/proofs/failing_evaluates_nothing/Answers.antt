use Rattle.definition_laws.proofs.Evaluations.{failing_nothing}
use Rattle.definition_laws.proofs.failing_evaluates_nothing.Goals as goal

pub returns : goal.returns
returns c = failing_nothing
