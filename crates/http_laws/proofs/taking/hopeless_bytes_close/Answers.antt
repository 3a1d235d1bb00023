use Rattle.http_laws.proofs.Steps.{takes_hopeless}
use Rattle.http_laws.proofs.taking.hopeless_bytes_close.Goals as goal

pub returns : goal.returns
returns g c = takes_hopeless g.A.Answering.answers
