use Rattle.bundle_laws.proofs.StoredBundles.{bundles_are_stored}
use Rattle.bundle_laws.proofs.standing.bundles_are_stored.Goals as goal

pub returns : goal.returns
returns c = bundles_are_stored
