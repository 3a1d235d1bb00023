use Rattle.std.proofs.Common.{sym, ap, ◌∙◌, arith}
use Rattle.std.proofs.lemmas.Fmt.{decimal_digit}
use Rattle.evaluation_context.specs.Ends.{text_end}
use Rattle.evaluation_context.proofs.EndLaws.{tells_nothing, tells_own}
use Rattle.evaluation_context.proofs.ends.index_end.Goals as goal

pub returns-then-index-lt10 : goal.returns-then-index-lt10
unfolding text_end
returns-then-index-lt10 c = tells_own c.from_le_bytes.result _ (c.from_le_bytes.ensures ∙ ap text_end (sym (decimal_digit c.args.index (omega arith))))

pub returns-else-index-lt10 : goal.returns-else-index-lt10
returns-else-index-lt10 c = tells_nothing _
