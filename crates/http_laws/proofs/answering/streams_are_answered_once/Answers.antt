use Rattle.http_laws.proofs.AnsweredOnce.{answered_once}
use Rattle.http_laws.proofs.answering.streams_are_answered_once.Goals as goal

pub returns : goal.returns
returns g c = answered_once g.A.Answering.answers
