use Rattle.http_front.proofs.Isolated.{served_alone}
use Rattle.http_front.proofs.isolation.served_connections_are_isolated.Goals as goal

pub returns : goal.returns
returns c talks before after x = served_alone talks before after x
