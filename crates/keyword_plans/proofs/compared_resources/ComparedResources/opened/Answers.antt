use Rattle.std.proofs.Common.{◌≡◌, Bor, Contains, IfOk, IfSome, ap, subst, ◌∙◌}
use Rattle.definitions.specs.Schemas.{Schema}
use Rattle.linker.specs.LinkedDocuments.{linked_schemas}
use Rattle.linker.specs.declared.linked.Linked.{Linked}
use Rattle.linker.specs.OpenedSchemas.{Opens}
use Rattle.keyword_plans.specs.declared.numbered_resources.NumberedResources.{NumberedResources}
use Rattle.keyword_plans.proofs.compared_resources.ComparedResources.opened.Goals as goal

pub returns-in-Some-clause-ok : goal.returns-in-Some-clause-ok
returns-in-Some-clause-ok c =
    let now = c.compare.new.self in
    let same : c.deref_mut.result.now.linked ≡ c.args.self.now.linked =
    ap (λ (n : NumberedResources). n.linked) c.deref_mut.ensures.value ∙ subst (λ o. IfSome o (λ n. n.value.linked ≡ now.linked)) c.in-Some.is now.same ∙ c.in_ok-compare.ensures.linked in
    subst (λ (l : Bor Linked). (p s : Schema) → Contains (linked_schemas l.now) p → p.resource ≡ c.args.around.now → Opens l.now s c.args.around.now c.args.id.now
    → IfOk c.opened.result (λ uri. uri.now ≡ s.resource)) same c.opened.ensures.ok
