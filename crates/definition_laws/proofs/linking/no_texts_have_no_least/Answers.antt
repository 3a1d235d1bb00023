use Rattle.definition_laws.proofs.LeastTexts.{no_texts}
use Rattle.definition_laws.proofs.linking.no_texts_have_no_least.Goals as goal

pub returns : goal.returns
returns c = no_texts
