use Rattle.std.proofs.Common.{◌≡◌, IfOk, Option, Some, option_map, sym, ap₂, subst, ◌∙◌}
use Rattle.std.specs.BTreeMap.{get}
use Rattle.definitions.specs.Schemas.{Schema}
use Rattle.linker.specs.NumberedTexts.{number_of_text}
use Rattle.keyword_plans.specs.Followed.{target_view}
use Rattle.keyword_plans.specs.Held.{parts_cmp}
use Rattle.keyword_plans.proofs.KeptResources.{anchored_found}
use Rattle.keyword_plans.proofs.numbered_resources.NumberedResources.anchored.Goals as goal

pub returns-in-Some-clause-ok : goal.returns-in-Some-clause-ok
returns-in-Some-clause-ok c resource anchor =
    let kept = c.args.self.now in
    let there : get parts_cmp kept.anchored (number_of_text kept.texts c.args.uri.now, number_of_text kept.texts c.args.name.now) ≡ Some c.in-Some.found.now =
    ap₂ (λ m n. get parts_cmp kept.anchored (m, n)) (sym c.number.ensures) (sym c.number-2.ensures) ∙ sym c.in-Some.ensures.value in
    subst (λ (o : Option Schema). IfOk c.again.result (λ t. option_map target_view t ≡ o))
    (anchored_found kept.linked.now kept.texts kept.anchored c.args.uri.now c.args.name.now c.in-Some.found.now kept.are_numbered kept.anchored_right there resource anchor)
    c.again.ensures
