use Rattle.std.proofs.Common.{◌∙◌, arith}
use Rattle.keywords.specs.Rows.{row_of}
use Rattle.evaluator.proofs.PresentLaws.{mark_of_content, mark_of_group, number_below}
use Rattle.evaluator.proofs.present.mark_of_keyword.Goals as goal

pub returns-in-ContentSchema-clause-mark : goal.returns-in-ContentSchema-clause-mark
returns-in-ContentSchema-clause-mark c = mark_of_content c.args.keyword c.in-ContentSchema.is

pub returns-in_default-clause-mark : goal.returns-in_default-clause-mark
returns-in_default-clause-mark c = c.group_number.ensures ∙ mark_of_group c.args.keyword c.in_default.not-ContentSchema

pub returns-in_default-clause-within : goal.returns-in_default-clause-within
returns-in_default-clause-within c = let below = number_below (row_of c.args.keyword).name in omega (arith, below, c.group_number.ensures)
