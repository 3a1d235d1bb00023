use Rattle.std.proofs.Common.{◌∙◌, ap, sym}
use Rattle.text_numbers.specs.TextNumbers.{is_only, text_number}
use Rattle.text_numbers.proofs.numbering.TextNumbers.only_number.Goals as goal

pub returns-then-leaf : goal.returns-then-leaf
unfolding is_only text_number
returns-then-leaf c = (ap (λ leaf. leaf.number) c.leaf-leaf.ensures, sym (ap (λ leaf. leaf.only) c.leaf-leaf.ensures) ∙ c.if-leaf.true)
