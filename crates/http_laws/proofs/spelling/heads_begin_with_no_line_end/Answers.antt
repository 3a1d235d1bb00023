use Rattle.http_laws.proofs.LineEnds.{no_blank}
use Rattle.http_laws.proofs.spelling.heads_begin_with_no_line_end.Goals as goal

pub returns : goal.returns
returns c = no_blank
