use Rattle.http_laws.proofs.SpelledOnce.{hopeless_has_none}
use Rattle.http_laws.proofs.spelling.hopeless_bytes_begin_with_no_request.Goals as goal

pub returns : goal.returns
returns c = hopeless_has_none
