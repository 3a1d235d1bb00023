use Rattle.http_front.proofs.Isolated.{isolated_of}
use Rattle.http_front.proofs.isolation.connections_are_isolated.Goals as goal

pub returns : goal.returns
returns c es before after now happened = isolated_of es before after now happened
