use Rattle.evaluator.proofs.DollarLaws.{marks_of_dollar}
use Rattle.evaluator.proofs.present.dollar_marks.Goals as goal

pub returns : goal.returns
returns c =
    marks_of_dollar c.mark_of_keyword.result c.mark_of_keyword-2.result c.mark_of_keyword-3.result c.mark_of_keyword.ensures.mark c.mark_of_keyword-2.ensures.mark c.mark_of_keyword-3.ensures.mark
