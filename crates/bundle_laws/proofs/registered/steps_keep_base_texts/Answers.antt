use Rattle.bundle_laws.proofs.BaseTexts.{steps_keep_base_texts}
use Rattle.bundle_laws.proofs.registered.steps_keep_base_texts.Goals as goal

pub returns : goal.returns
returns c = steps_keep_base_texts
