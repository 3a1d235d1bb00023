use Rattle.http_laws.proofs.Cutting.{cut}
use Rattle.http_laws.proofs.spelling.cut_streams_spell_the_same.Goals as goal

pub returns : goal.returns
returns c = cut
