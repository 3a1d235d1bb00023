use Rattle.std.proofs.Common.{◌≢◌, ◌==◌, arith}
use Rattle.std.proofs.lemmas.Bool.{eqb-false, not-true}
use Rattle.evaluation_context.proofs.EndLaws.{ends_differ}
use Rattle.evaluation_context.proofs.ends.are_other_ends.Goals as goal

pub returns-then-first-ne0 : goal.returns-then-first-ne0
returns-then-first-ne0 c = λ i j known.
    let n = c.args.first in
    let m = c.args.second in
    let apart : n ≢ m = omega arith in
    let some : n ≢ 0 = omega arith in
    ends_differ n m i j apart some (eqb-false m 0 (not-true (m == 0) known))
