use Rattle.evaluator.proofs.PresentLaws.{mark_of_named, mark_of_others}
use Rattle.evaluator.proofs.present.mark_of.Goals as goal

pub returns-in-Some-clause-mark : goal.returns-in-Some-clause-mark
returns-in-Some-clause-mark c name named =
    mark_of_named name c.in-Some.keyword c.args.keyword c.mark_of_keyword.result c.in-Some.is named c.mark_of_keyword.ensures.mark

pub returns-in-None-clause-mark : goal.returns-in-None-clause-mark
returns-in-None-clause-mark c name named = mark_of_others name c.args.keyword c.in-None.is named
