use Rattle.definition_laws.proofs.Bundled.{bundles_are_definite}
use Rattle.definition_laws.proofs.bundling.bundles_are_definite.Goals as goal

pub returns : goal.returns
returns c = bundles_are_definite
