use Rattle.http_laws.proofs.Steps.{takes_line_ends}
use Rattle.http_laws.proofs.taking.line_ends_are_dropped.Goals as goal

pub returns : goal.returns
returns g c = takes_line_ends g.A.Answering.answers
