use Rattle.http_laws.proofs.Hopeless.{hopeless_on}
use Rattle.http_laws.proofs.spelling.hopeless_bytes_stay_hopeless.Goals as goal

pub returns : goal.returns
returns c = hopeless_on
