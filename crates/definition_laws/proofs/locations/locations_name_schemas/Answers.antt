use Rattle.definition_laws.proofs.LocatedSchemas.{locations_name_schemas}
use Rattle.definition_laws.proofs.locations.locations_name_schemas.Goals as goal

pub returns : goal.returns
returns c = locations_name_schemas
