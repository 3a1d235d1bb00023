use Rattle.connections.proofs.SameHistory.{same_history}
use Rattle.connections.proofs.events.cuts_decide_nothing.Goals as goal

pub returns : goal.returns
returns g c = same_history g.H.Handler.answers
