use Rattle.http_laws.proofs.Steps.{takes_waiting}
use Rattle.http_laws.proofs.taking.waiting_bytes_are_held.Goals as goal

pub returns : goal.returns
returns g c = takes_waiting g.A.Answering.answers
