use Rattle.definition_laws.proofs.AppliedSchemas.{applied_schemas_are_known}
use Rattle.definition_laws.proofs.applications.applied_schemas_are_known.Goals as goal

pub returns : goal.returns
returns c = applied_schemas_are_known
