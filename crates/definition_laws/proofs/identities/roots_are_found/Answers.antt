use Rattle.definition_laws.proofs.Roots.{roots_found}
use Rattle.definition_laws.proofs.identities.roots_are_found.Goals as goal

pub returns : goal.returns
returns c = roots_found
