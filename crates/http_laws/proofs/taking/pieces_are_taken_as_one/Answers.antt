use Rattle.http_laws.proofs.Pieces.{takes_on}
use Rattle.http_laws.proofs.taking.pieces_are_taken_as_one.Goals as goal

pub returns : goal.returns
returns g c = takes_on g.A.Answering.answers
