use Rattle.definition_laws.proofs.ShortArrays.{arrays_short}
use Rattle.definition_laws.proofs.reading.read_arrays_are_short.Goals as goal

pub returns : goal.returns
returns c = arrays_short
