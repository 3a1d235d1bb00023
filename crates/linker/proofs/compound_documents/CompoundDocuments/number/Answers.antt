use Rattle.std.proofs.Common.{drop, ap, sym, ◌∙◌}
use Rattle.std.specs.List.{position_from}
use Rattle.linker.specs.CompoundDocuments.{compound_documents}
use Rattle.std.specs.Option.{option_or}
use Rattle.linker.specs.Sources.{embeds}
use Rattle.linker.proofs.NumberedResources.{position_cut}
use Rattle.linker.proofs.compound_documents.CompoundDocuments.number.Goals as goal

pub returns-in-Some : goal.returns-in-Some
returns-in-Some c =
    let ds = compound_documents c.args.self.now in
    let first = embeds c.args.uri.now in
    ap (λ o. option_or o (position_from first 4 (drop 4 ds))) (sym c.in-Some.is ∙ c.asked_number.ensures) ∙ sym (position_cut first 4 0 ds)

pub returns-in-None : goal.returns-in-None
unfolding compound_documents
returns-in-None c =
    let ds = compound_documents c.args.self.now in
    let first = embeds c.args.uri.now in
    c.copied.ensures ∙ c.get.ensures.value ∙ c.args.self.now.by_uri c.args.uri.now
    ∙ ap (λ o. option_or o (position_from first 4 (drop 4 ds))) (sym c.in-None.is ∙ c.asked_number.ensures) ∙ sym (position_cut first 4 0 ds)
