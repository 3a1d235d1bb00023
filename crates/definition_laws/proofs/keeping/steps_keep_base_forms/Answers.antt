use Rattle.definition_laws.proofs.KeptRegistries.{bases_kept}
use Rattle.definition_laws.proofs.keeping.steps_keep_base_forms.Goals as goal

pub returns : goal.returns
returns c = bases_kept
