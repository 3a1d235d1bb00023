use Rattle.definition_laws.proofs.KeptRegistries.{values_kept}
use Rattle.definition_laws.proofs.keeping.steps_keep_body_values.Goals as goal

pub returns : goal.returns
returns c = values_kept
