use Rattle.http_laws.proofs.HeadSizes.{part_has_none}
use Rattle.http_laws.proofs.spelling.parts_of_heads_are_no_heads.Goals as goal

pub returns : goal.returns
returns c = part_has_none
