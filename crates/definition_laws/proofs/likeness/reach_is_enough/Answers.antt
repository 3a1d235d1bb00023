use Rattle.definition_laws.proofs.ReachedTables.{reach_is_enough}
use Rattle.definition_laws.proofs.likeness.reach_is_enough.Goals as goal

pub returns : goal.returns
returns c = reach_is_enough
