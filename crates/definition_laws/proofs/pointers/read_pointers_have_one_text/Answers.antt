use Rattle.lemmas.proofs.PointerTexts.{read_text}
use Rattle.definition_laws.proofs.pointers.read_pointers_have_one_text.Goals as goal

pub returns : goal.returns
returns c = read_text
