use Rattle.std.proofs.Common.{◌∙◌, sym, ap}
use Rattle.basic_output.specs.Units.{unit_texts}
use Rattle.evaluator.proofs.report.noted_report.Goals as goal

pub returns-clause-text : goal.returns-clause-text
returns-clause-text c o v n = sym (c.in_ok-text.ensures.answer o v (ap unit_texts c.counted.ensures ∙ n))
