use Rattle.std.proofs.Common.{sym, ◌∙◌}
use Rattle.tenants_file.proofs.RepeatedKeys.{repeats_here, repeats_later}
use Rattle.tenants_file.proofs.keys.have_repeat.Goals as goal

pub returns-then-have_key : goal.returns-then-have_key
returns-then-have_key c =
    repeats_here c.args.tenants.now c.loop-index.index c.index-tenants-index.result c.as_str.result.now c.loop-index-test.true c.index-tenants-index.is c.as_str.ensures.value c.loop-index.invariant (sym c.have_key.ensures ∙ c.if-have_key.true)

pub loop-index-preserved : goal.loop-index-preserved
loop-index-preserved c =
    repeats_later c.args.tenants.now c.loop-index.index c.index-tenants-index.result c.as_str.result.now c.loop-index-test.true c.index-tenants-index.is c.as_str.ensures.value c.loop-index.invariant (sym c.have_key.ensures ∙ c.if-have_key.false)
