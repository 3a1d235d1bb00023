use Rattle.lemmas.proofs.PointerTexts.{read_back}
use Rattle.definition_laws.proofs.pointers.pointers_are_read_back.Goals as goal

pub returns : goal.returns
returns c = read_back
