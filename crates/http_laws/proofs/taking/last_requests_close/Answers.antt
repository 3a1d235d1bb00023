use Rattle.http_laws.proofs.Steps.{takes_last}
use Rattle.http_laws.proofs.taking.last_requests_close.Goals as goal

pub returns : goal.returns
returns g c = takes_last g.A.Answering.answers
