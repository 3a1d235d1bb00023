use Rattle.definition_laws.proofs.KeptRegistries.{seen_at_first}
use Rattle.definition_laws.proofs.keeping.empty_registries_see_the_library.Goals as goal

pub returns : goal.returns
returns c = seen_at_first
