use Rattle.definition_laws.proofs.ReadValues.{well_formed}
use Rattle.definition_laws.proofs.reading.read_values_are_well_formed.Goals as goal

pub returns : goal.returns
returns c = well_formed
