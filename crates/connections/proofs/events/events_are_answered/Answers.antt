use Rattle.connections.proofs.Happened.{history_of}
use Rattle.connections.proofs.events.events_are_answered.Goals as goal

pub returns : goal.returns
returns g c = history_of g.H.Handler.answers
