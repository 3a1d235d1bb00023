use Rattle.definition_laws.proofs.Bundled.{bundles_keep_their_uri}
use Rattle.definition_laws.proofs.bundling.bundles_keep_their_uri.Goals as goal

pub returns : goal.returns
returns c = bundles_keep_their_uri
