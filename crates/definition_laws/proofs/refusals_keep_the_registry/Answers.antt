use Rattle.definition_laws.proofs.Registries.{step_keeps}
use Rattle.definition_laws.proofs.refusals_keep_the_registry.Goals as goal

pub returns : goal.returns
returns c = step_keeps
