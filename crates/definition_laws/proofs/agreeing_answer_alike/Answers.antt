use Rattle.definition_laws.proofs.Registries.{agree_answer_alike}
use Rattle.definition_laws.proofs.agreeing_answer_alike.Goals as goal

pub returns : goal.returns
returns c = agree_answer_alike
