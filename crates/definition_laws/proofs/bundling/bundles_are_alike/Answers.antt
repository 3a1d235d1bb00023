use Rattle.definition_laws.proofs.Bundled.{bundles_are_alike}
use Rattle.definition_laws.proofs.bundling.bundles_are_alike.Goals as goal

pub returns : goal.returns
returns c = bundles_are_alike
