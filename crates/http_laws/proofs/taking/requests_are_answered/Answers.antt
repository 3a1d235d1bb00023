use Rattle.http_laws.proofs.Steps.{takes_one}
use Rattle.http_laws.proofs.taking.requests_are_answered.Goals as goal

pub returns : goal.returns
returns g c = takes_one g.A.Answering.answers
