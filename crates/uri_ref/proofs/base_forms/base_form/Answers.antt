use Rattle.std.proofs.Common.{Ok, not, is_some, ap, sym, ◌∙◌}
use Rattle.uri_ref.proofs.Percents.{mapped}
use Rattle.uri_ref.proofs.Based.{based}
use Rattle.uri_ref.proofs.base_forms.base_form.Goals as goal

pub returns-clause-ok : goal.returns-clause-ok
returns-clause-ok c =
    let form =
    based c.args.uri.now c.split-parts.result c.parts-base.result c.split-parts.ensures.parts
    (ap is_some (sym c.fragment.ensures) ∙ sym (mapped (λ t. t.now) c.fragment.result) ∙ sym c.is_some.ensures ∙ c.if-is_some.false)
    (ap is_some (sym c.scheme.ensures) ∙ sym (mapped (λ t. t.now) c.scheme.result) ∙ c.is_none.ensures ∙ ap not c.if-is_none.false)
    (c.parts-base.ensures ∙ c.in_ok-resolved.ensures)
    (sym c.is_identifier.ensures ∙ c.if-not-is_identifier.false)
    in
    form ∙ ap Ok (sym c.in_ok-recompose.ensures)
