use Rattle.std.proofs.Common.{◌≡◌, Some, nat_cmp, slice_get, subst, sym, ap, ◌∙◌}
use Rattle.std.specs.BTreeMap.{get}
use Rattle.linker.specs.NumberedTexts.{numbered_texts, number_of_text}
use Rattle.keyword_plans.proofs.KeptResources.{document_found}
use Rattle.keyword_plans.proofs.numbered_resources.NumberedResources.document.Goals as goal

pub returns-in-Some-clause-ok : goal.returns-in-Some-clause-ok
returns-in-Some-clause-ok c s inside resource =
    let kept = c.args.self.now in
    let known : slice_get (numbered_texts kept.texts) (number_of_text kept.texts c.args.uri.now) ≡ Some c.args.uri.now =
    subst (λ u. slice_get (numbered_texts kept.texts) (number_of_text kept.texts u) ≡ Some u) resource (kept.are_numbered.resources s inside) in
    let there : get nat_cmp kept.documents (number_of_text kept.texts c.args.uri.now) ≡ Some c.in-Some.document.now =
    ap (get nat_cmp kept.documents) (sym c.number-number.ensures) ∙ sym c.in-Some.ensures.value in
    document_found kept.linked.now kept.texts kept.documents c.args.uri.now c.in-Some.document.now kept.documents_right there known
