use Rattle.std.proofs.Common.{map, ap, ◌∙◌}
use Rattle.std.proofs.lemmas.List.{take_all}
use Rattle.stored_rows.specs.Rows.{digest}
use Rattle.tenant_hub.specs.Hubs.{hub_view}
use Rattle.stored_hub.proofs.RepeatedDigests.{digests_of_keys}
use Rattle.stored_hub.proofs.digested_keys.digested_keys.Goals as goal

pub returns : goal.returns
returns c =
    c.loop-key.invariant
    ∙ ap (λ ts. map digest (map (λ t. t.now) ts)) (take_all c.loop-key.key-index c.deref-key-items.result.now c.loop-key-test.false ∙ c.deref-key-items.ensures.value)
    ∙ ap (map digest) c.in_ok-keys.ensures ∙ digests_of_keys (hub_view c.args.hub.now)
