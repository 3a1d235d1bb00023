use Rattle.std.proofs.Common.{◌≡◌, Some, slice_get, subst, sym, ap₂, ◌∙◌}
use Rattle.std.specs.BTreeMap.{get}
use Rattle.linker.specs.NumberedTexts.{numbered_texts, number_of_text}
use Rattle.keyword_plans.specs.Held.{parts_cmp}
use Rattle.keyword_plans.proofs.KeptResources.{opened_found}
use Rattle.keyword_plans.proofs.numbered_resources.NumberedResources.opened.Goals as goal

pub returns-in-Some-clause-ok : goal.returns-in-Some-clause-ok
returns-in-Some-clause-ok c p s inside around opens =
    let kept = c.args.self.now in
    let known : slice_get (numbered_texts kept.texts) (number_of_text kept.texts c.args.around.now) ≡ Some c.args.around.now =
    subst (λ u. slice_get (numbered_texts kept.texts) (number_of_text kept.texts u) ≡ Some u) around (kept.are_numbered.resources p inside) in
    let there : get parts_cmp kept.opened (number_of_text kept.texts c.args.around.now, number_of_text kept.texts c.args.id.now) ≡ Some c.in-Some.uri.now =
    ap₂ (λ m n. get parts_cmp kept.opened (m, n)) (sym c.number.ensures) (sym c.number-2.ensures) ∙ sym c.in-Some.ensures.value in
    opened_found kept.linked.now kept.texts kept.opened c.args.around.now c.args.id.now c.in-Some.uri.now s kept.are_numbered kept.opened_right there known opens
