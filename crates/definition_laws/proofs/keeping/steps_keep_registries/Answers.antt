use Rattle.definition_laws.proofs.KeptRegistries.{step_kept}
use Rattle.definition_laws.proofs.keeping.steps_keep_registries.Goals as goal

pub returns : goal.returns
returns c = step_kept
