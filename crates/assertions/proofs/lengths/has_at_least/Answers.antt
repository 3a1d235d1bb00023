use Rattle.std.proofs.Common.{arith}
use Rattle.assertions.proofs.Sizes.{chars-lengths, not_above, above}
use Rattle.assertions.proofs.lengths.has_at_least.Goals as goal

pub returns-then-bytes-size : goal.returns-then-bytes-size
returns-then-bytes-size c = let l = chars-lengths c.args.text.now c.utf8.text in above _ _ (omega arith)

pub returns-then-div_ceil-size : goal.returns-then-div_ceil-size
returns-then-div_ceil-size c = let l = chars-lengths c.args.text.now c.utf8.text in not_above _ _ (omega arith)
