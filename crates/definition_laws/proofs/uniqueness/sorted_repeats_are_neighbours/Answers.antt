use Rattle.definition_laws.proofs.NeighbourRepeats.{neighbours}
use Rattle.definition_laws.proofs.uniqueness.sorted_repeats_are_neighbours.Goals as goal

pub returns : goal.returns
returns c = neighbours
