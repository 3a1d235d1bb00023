use Rattle.http_laws.proofs.SpelledOnce.{spelled_once}
use Rattle.http_laws.proofs.spelling.streams_are_spelled_once.Goals as goal

pub returns : goal.returns
returns c = spelled_once
