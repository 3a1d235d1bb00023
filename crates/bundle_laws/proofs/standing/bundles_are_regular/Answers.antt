use Rattle.bundle_laws.proofs.Passing.{bundles_are_regular}
use Rattle.bundle_laws.proofs.standing.bundles_are_regular.Goals as goal

pub returns : goal.returns
returns c = bundles_are_regular
