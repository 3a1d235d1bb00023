use Rattle.std.proofs.Common.{ap, string_bytes, sym, ◌∙◌}
use Rattle.definitions.specs.Values.{same_text}
use Rattle.lemmas.proofs.Texts.{same_text_is}
use Rattle.stored_hub.proofs.RepeatedDigests.{digest_at, not_here}
use Rattle.stored_hub.proofs.digested_keys.key_of.Goals as goal

pub loop-place-preserved : goal.loop-place-preserved
loop-place-preserved c =
    sym (not_here c.args.keys.now c.loop-place.place c.index-keys-place.result c.args.tenant.now c.loop-place-test.true c.index-keys-place.is
    (ap (same_text c.args.tenant.now) (sym c.as_str.ensures.value) ∙ sym c.if-eq.ensures)) ∙ c.loop-place.invariant

pub returns-then-eq-clause-place : goal.returns-then-eq-clause-place
returns-then-eq-clause-place c =
    digest_at c.args.keys.now c.loop-place.place c.index-keys-place.result c.args.tenant.now c.loop-place-test.true c.index-keys-place.is
    (same_text_is c.args.tenant.now (string_bytes c.index-keys-place.result.tenant)
    (ap (same_text c.args.tenant.now) (sym c.as_str.ensures.value) ∙ sym c.if-eq.ensures))
