use Rattle.bundle_laws.proofs.ServedBundles.{replied_bundles_answer_the_same}
use Rattle.bundle_laws.proofs.served.replied_bundles_answer_the_same.Goals as goal

pub returns : goal.returns
returns c = replied_bundles_answer_the_same
