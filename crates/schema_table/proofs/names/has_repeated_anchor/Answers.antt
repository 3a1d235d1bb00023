use Rattle.std.proofs.Common.{◌≡◌, IfOk, subst, ap, ◌∙◌}
use Rattle.std.specs.Ordering.{eq_by_cmp}
use Rattle.definitions.specs.Lists.{has_repeat}
use Rattle.definitions.specs.Scanning.{same_anchor}
use Rattle.schema_table.specs.AnchorViews.{anchor_view}
use Rattle.schema_table.proofs.SameNames.{pair_order, same-anchors}
use Rattle.schema_table.proofs.SeenKeys.{has_repeat-view}
use Rattle.schema_table.proofs.names.has_repeated_anchor.Goals as goal

pub returns : goal.returns
returns c =
    subst (λ repeats. IfOk c.has_repeat.result (λ b. b ≡ repeats))
    (ap (has_repeat (eq_by_cmp pair_order)) c.deref.ensures.value
    ∙ has_repeat-view anchor_view (eq_by_cmp pair_order) same_anchor same-anchors c.in_ok-pairs.pairs.items
    ∙ ap (has_repeat same_anchor) c.in_ok-pairs.ensures)
    c.has_repeat.ensures
