use Rattle.std.proofs.Common.{ap}
use Rattle.text_numbers.specs.TextNumbers.{text_number}
use Rattle.text_numbers.proofs.numbering.TextNumbers.number.Goals as goal

pub returns : goal.returns
unfolding text_number
returns c = ap (λ leaf. leaf.number) c.leaf.ensures
