use Rattle.http_laws.proofs.SpelledOnce.{waiting_has_none}
use Rattle.http_laws.proofs.spelling.waiting_bytes_begin_with_no_request.Goals as goal

pub returns : goal.returns
returns c = waiting_has_none
