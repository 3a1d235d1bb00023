use Rattle.definition_laws.proofs.Answering.{same_reached_alike}
use Rattle.definition_laws.proofs.same_reached_sets_answer_alike.Goals as goal

pub returns : goal.returns
returns c = same_reached_alike
