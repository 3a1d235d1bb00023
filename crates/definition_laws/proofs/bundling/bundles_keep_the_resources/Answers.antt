use Rattle.definition_laws.proofs.Bundled.{bundles_keep_the_resources}
use Rattle.definition_laws.proofs.bundling.bundles_keep_the_resources.Goals as goal

pub returns : goal.returns
returns c = bundles_keep_the_resources
