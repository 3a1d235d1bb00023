use Rattle.std.proofs.Common.{Some, sym, ap, ◌∙◌, arith}
use Rattle.json_doc.proofs.Numerals.{below}
use Rattle.json_doc.proofs.reading.direct.negative_from.Goals as goal

pub returns-then-natural-gt0 : goal.returns-then-natural-gt0
returns-then-natural-gt0 c =
    below c.args.digits.now c.in-Some.natural c.in-Some.ensures (omega (arith, c.if-natural-gt0.true)) ∙ ap Some (sym c.below_zero.ensures)
