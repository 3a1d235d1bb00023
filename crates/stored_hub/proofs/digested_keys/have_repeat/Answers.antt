use Rattle.std.proofs.Common.{sym, ◌∙◌}
use Rattle.stored_hub.proofs.RepeatedDigests.{repeats_here, repeats_later}
use Rattle.stored_hub.proofs.digested_keys.have_repeat.Goals as goal

pub returns-then-have_digest : goal.returns-then-have_digest
returns-then-have_digest c =
    repeats_here c.args.keys.now c.loop-index.index c.index-keys-index.result c.as_str.result.now c.loop-index-test.true c.index-keys-index.is c.as_str.ensures.value c.loop-index.invariant (sym c.have_digest.ensures ∙ c.if-have_digest.true)

pub loop-index-preserved : goal.loop-index-preserved
loop-index-preserved c =
    repeats_later c.args.keys.now c.loop-index.index c.index-keys-index.result c.as_str.result.now c.loop-index-test.true c.index-keys-index.is c.as_str.ensures.value c.loop-index.invariant (sym c.have_digest.ensures ∙ c.if-have_digest.false)
