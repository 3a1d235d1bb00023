use Rattle.std.proofs.Common.{ap, sym, ◌∙◌}
use Rattle.definitions.specs.Lists.{has_repeat}
use Rattle.definitions.specs.Patterns.{regular_search}
use Rattle.definitions.specs.Values.{same_text}
use Rattle.stored_rows.specs.Restoring.{HaveDistinctDigests}
use Rattle.stored_rows.proofs.KeyedRegistries.{distinct_by_emptied}
use Rattle.stored_rows.proofs.RestoredRows.{restoring_keeps}
use Rattle.tenant_hub.specs.Hubs.{hub_view}
use Rattle.stored_hub.specs.DigestedKeys.{digests_in}
use Rattle.stored_hub.proofs.OpenedRows.{has_its_rows}
use Rattle.stored_hub.proofs.opening.open.Goals as goal

pub invariant_of-result : goal.invariant_of-result
invariant_of-result g c =
    let ks = hub_view c.args.hub in
    let ls = hub_view c.restore_all.new.hub in
    let distinct : HaveDistinctDigests ks =
    ap (has_repeat same_text) (sym c.in-Ok.ensures ∙ ap digests_in (sym c.deref.ensures.value)) ∙ (sym c.have_repeat.ensures ∙ c.if-have_repeat.false) in
    let is = c.in-Ok-restore_all.ensures.ok in
    record {
      distinct = distinct_by_emptied ks ls (restoring_keeps regular_search ks ls is.0 is.1.1) distinct;
      stored = ∣ (λ e. has_its_rows g.D.DocumentStore.holds c.restore_all.new.store ks ls is) ∣₁;
      settled = λ e. cc;
    }
