use Rattle.std.proofs.Common.{◌≡◌, Bor, IfOk, subst, ap, ◌∙◌}
use Rattle.std.specs.Ordering.{eq_by_cmp}
use Rattle.definitions.specs.Values.{Text, same_text}
use Rattle.definitions.specs.Lists.{has_repeat}
use Rattle.lemmas.proofs.Texts.{text_order, text_order-same}
use Rattle.schema_table.proofs.SeenKeys.{has_repeat-view}
use Rattle.schema_table.proofs.names.has_repeated_uri.Goals as goal

pub returns : goal.returns
returns c =
    subst (λ repeats. IfOk c.has_repeat.result (λ b. b ≡ repeats))
    (ap (has_repeat (eq_by_cmp text_order)) c.deref.ensures.value
    ∙ has_repeat-view (λ (u : Bor Text). u.now) (eq_by_cmp text_order) same_text text_order-same c.in_ok-uris.uris.items
    ∙ ap (has_repeat same_text) c.in_ok-uris.ensures)
    c.has_repeat.ensures
