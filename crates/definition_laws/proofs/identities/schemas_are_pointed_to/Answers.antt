use Rattle.definition_laws.proofs.Roots.{schemas_pointed_to}
use Rattle.definition_laws.proofs.identities.schemas_are_pointed_to.Goals as goal

pub returns : goal.returns
returns c = schemas_pointed_to
