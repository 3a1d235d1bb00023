use Rattle.bundle_laws.proofs.BaseTexts.{courses_keep_base_texts}
use Rattle.bundle_laws.proofs.registered.courses_keep_base_texts.Goals as goal

pub returns : goal.returns
returns c = courses_keep_base_texts
