use Rattle.std.proofs.Common.{false, string_bytes, sym, subst, ◌∙◌}
use Rattle.definitions.specs.Registries.{stored}
use Rattle.lemmas.proofs.Texts.{same_text_is}
use Rattle.stored_rows.specs.RowViews.{row_view}
use Rattle.tenant_hub.specs.Hubs.{hub_view}
use Rattle.tenant_hub.specs.PutBack.{IsRestored}
use Rattle.tenant_hub.proofs.KeptHubs.{hub_kept}
use Rattle.stored_hub.proofs.OpenedRows.{put_back_as_written}
use Rattle.stored_hub.proofs.restoring.restore_row.Goals as goal

pub returns-then-is_as_written-clause-ok : goal.returns-then-is_as_written-clause-ok
returns-then-is_as_written-clause-ok c =
    let ks = hub_view c.args.hub.now in
    let ls = hub_view c.restore.new.self in
    let row = row_view c.args.row.now in
    let key = c.in-Some.key.now in
    let uri = string_bytes c.in-Stored-default-false.uri in
    let restored : IsRestored ks key row.base row.text (stored uri false) ls =
    subst (λ b. IsRestored ks key b row.text (stored uri false) ls) c.as_str-2.ensures.value
    (subst (λ t. IsRestored ks key c.as_str-2.result.now t (stored uri false) ls) c.as_bytes.ensures.value
    (subst (λ b. IsRestored ks key c.as_str-2.result.now c.as_bytes.result.now (stored uri b) ls) c.in-Stored-default-false.field-1-test c.in-Stored-default-false.ensures.restored)) in
    put_back_as_written ks ls row key uri (hub_kept c.args.hub.now) (c.in-Some.ensures.some ∙ c.as_str.ensures.value) restored
    (same_text_is uri row.uri (sym c.if-eq.ensures)) (c.is_as_written.ensures c.if-is_as_written.true)
