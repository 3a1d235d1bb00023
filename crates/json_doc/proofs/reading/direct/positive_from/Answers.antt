use Rattle.std.proofs.Common.{Some, sym, ap, ◌∙◌}
use Rattle.json_doc.proofs.Numerals.{positive}
use Rattle.json_doc.proofs.reading.direct.positive_from.Goals as goal

pub returns-in-Some : goal.returns-in-Some
returns-in-Some c = positive c.args.digits.now c.in-Some.natural c.in-Some.ensures ∙ ap Some (sym c.of.ensures)
