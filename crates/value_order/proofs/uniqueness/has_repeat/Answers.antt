use Rattle.std.proofs.Common.{sym, ◌∙◌}
use Rattle.value_order.proofs.Repeats.{repeats-here, repeats-past}
use Rattle.value_order.proofs.uniqueness.has_repeat.Goals as goal

pub returns-then-has_same : goal.returns-then-has_same
returns-then-has_same c =
    repeats-here c.args.items.now c.loop-index.index c.index-items-index.result c.loop-index-test.true c.index-items-index.is c.loop-index.invariant (sym c.has_same.ensures ∙ c.if-has_same.true)

pub loop-index-preserved : goal.loop-index-preserved
loop-index-preserved c =
    repeats-past c.args.items.now c.loop-index.index c.index-items-index.result c.loop-index-test.true c.index-items-index.is c.loop-index.invariant (sym c.has_same.ensures ∙ c.if-has_same.false)
