use Rattle.definition_laws.proofs.Answering.{not_for_room}
use Rattle.definition_laws.proofs.bad_patterns_are_not_for_room.Goals as goal

pub returns : goal.returns
returns c = not_for_room
