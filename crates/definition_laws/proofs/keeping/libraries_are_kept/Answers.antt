use Rattle.definition_laws.proofs.KeptRegistries.{library_kept}
use Rattle.definition_laws.proofs.keeping.libraries_are_kept.Goals as goal

pub returns : goal.returns
returns c = library_kept
