use Rattle.bundle_laws.proofs.Passing.{bundles_pass_the_scan}
use Rattle.bundle_laws.proofs.standing.bundles_pass_the_scan.Goals as goal

pub returns : goal.returns
returns c = bundles_pass_the_scan
