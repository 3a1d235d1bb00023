use Rattle.bundle_laws.proofs.Passing.{bundles_stand_alone}
use Rattle.bundle_laws.proofs.standing.bundles_stand_alone.Goals as goal

pub returns : goal.returns
returns c = bundles_stand_alone
