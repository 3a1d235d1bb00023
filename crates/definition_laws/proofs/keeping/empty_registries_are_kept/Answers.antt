use Rattle.definition_laws.proofs.KeptRegistries.{empty_kept}
use Rattle.definition_laws.proofs.keeping.empty_registries_are_kept.Goals as goal

pub returns : goal.returns
returns c = empty_kept
