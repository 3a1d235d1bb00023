use Rattle.http_laws.proofs.AnsweredOnce.{ended_once}
use Rattle.http_laws.proofs.answering.ended_streams_are_answered_once.Goals as goal

pub returns : goal.returns
returns g c = ended_once g.A.Answering.answers
