use Rattle.bundle_laws.proofs.BaseTexts.{libraries_have_base_texts}
use Rattle.bundle_laws.proofs.registered.libraries_have_base_texts.Goals as goal

pub returns : goal.returns
returns c = libraries_have_base_texts
