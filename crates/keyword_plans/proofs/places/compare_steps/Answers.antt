use Rattle.std.proofs.Common.{sym, ◌∙◌, arith}
use Rattle.keyword_plans.proofs.PlaceOrders.{ended_first, ended_later}
use Rattle.keyword_plans.proofs.places.compare_steps.Goals as goal

pub returns-then-index-second : goal.returns-then-index-second
returns-then-index-second c =
    sym (c.loop-index.invariant ∙ ended_later c.args.first.now c.args.second.now c.loop-index.index (omega arith) (omega arith))

pub returns-then-first-second : goal.returns-then-first-second
returns-then-first-second c =
    sym (c.loop-index.invariant ∙ ended_first c.args.first.now c.args.second.now c.loop-index.index (omega arith) (omega arith))
