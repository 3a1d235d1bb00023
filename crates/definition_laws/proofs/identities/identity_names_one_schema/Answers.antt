use Rattle.definition_laws.proofs.Roots.{identity_names_one}
use Rattle.definition_laws.proofs.identities.identity_names_one_schema.Goals as goal

pub returns : goal.returns
returns c = identity_names_one
