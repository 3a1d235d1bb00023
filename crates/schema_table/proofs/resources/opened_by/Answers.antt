use Rattle.std.proofs.Common.{◌≡◌, true, refl, sym, ap, ap₂, ◌∙◌}
use Rattle.definitions.specs.Resolution.{resolve}
use Rattle.definitions.specs.Scanning.{is_empty_fragment}
use Rattle.definitions.specs.Uris.{Parts, split}
use Rattle.uri_ref.proofs.CutTexts.{text_before}
use Rattle.schema_table.proofs.ResolvedIds.{names_all}
use Rattle.schema_table.proofs.resources.opened_by.Goals as goal

pub returns-clause-opened : goal.returns-clause-opened
returns-clause-opened c = λ _.
    let base = c.args.base.now in
    let id = c.args.id.now in
    let is : c.parts.result ≡ resolve (split base) (split id) = c.parts.ensures ∙ c.in_ok-resolved.ensures ∙ ap₂ resolve c.split.ensures.parts c.split-reference.ensures.parts in
    let empty : is_empty_fragment ((split id).fragment) ≡ true =
    ap (λ (p : Parts). is_empty_fragment p.fragment) (sym c.split-reference.ensures.parts) ∙ ap is_empty_fragment (sym c.fragment.ensures) ∙ sym c.is_empty_fragment.ensures ∙ c.if-not-is_empty_fragment.false in
    record {
      same = refl;
      named = (c.in_ok-uri.ensures ∙ text_before base id c.parts.result c.without_fragment-identifier.result is c.without_fragment-identifier.ensures, names_all base id c.parts.result is empty);
    }
