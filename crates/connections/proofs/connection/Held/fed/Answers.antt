use Rattle.connections.proofs.Joined.{takes_none}
use Rattle.connections.proofs.connection.Held.fed.Goals as goal

pub returns-in-Err-clause-some : goal.returns-in-Err-clause-some
returns-in-Err-clause-some g c = takes_none g.H.Handler.answers _ (g.H.Handler.state c.args.handler.now)
