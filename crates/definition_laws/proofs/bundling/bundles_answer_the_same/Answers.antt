use Rattle.definition_laws.proofs.Bundled.{bundles_answer_the_same}
use Rattle.definition_laws.proofs.bundling.bundles_answer_the_same.Goals as goal

pub returns : goal.returns
returns c = bundles_answer_the_same
