use Rattle.std.proofs.Common.{◌≡◌, Bor, IfOk, IfSome, ap, option_map, subst, ◌∙◌}
use Rattle.definitions.specs.Targets.{schema_with_dynamic_anchor}
use Rattle.linker.specs.LinkedDocuments.{linked_schemas}
use Rattle.linker.specs.declared.linked.Linked.{Linked}
use Rattle.keyword_plans.specs.Followed.{target_view}
use Rattle.keyword_plans.specs.LinkedResources.{HasAnchor, HasResource}
use Rattle.keyword_plans.specs.declared.numbered_resources.NumberedResources.{NumberedResources}
use Rattle.keyword_plans.proofs.compared_resources.ComparedResources.anchored.Goals as goal

pub returns-in-Some-clause-ok : goal.returns-in-Some-clause-ok
returns-in-Some-clause-ok c =
    let now = c.compare.new.self in
    let same : c.deref_mut.result.now.linked ≡ c.args.self.now.linked =
    ap (λ (n : NumberedResources). n.linked) c.deref_mut.ensures.value ∙ subst (λ o. IfSome o (λ n. n.value.linked ≡ now.linked)) c.in-Some.is now.same ∙ c.in_ok-compare.ensures.linked in
    subst (λ (l : Bor Linked). HasResource l.now c.args.uri.now → HasAnchor l.now c.args.name.now
    → IfOk c.anchored.result (λ t. option_map target_view t ≡ schema_with_dynamic_anchor (linked_schemas l.now) c.args.uri.now c.args.name.now)) same c.anchored.ensures.ok
