use Rattle.std.proofs.Common.{Some, Bor, option_map, subst, sym, ap, ◌∙◌}
use Rattle.linker.specs.LinkedDocuments.{linked_schemas}
use Rattle.linker.specs.declared.linked.Linked.{Linked}
use Rattle.keyword_plans.specs.Followed.{followed_in_scope}
use Rattle.keyword_plans.specs.LinkedResources.{HasResources}
use Rattle.keyword_plans.specs.ScopeViews.{scope_documents, scope_uris}
use Rattle.keyword_plans.proofs.dynamic_scope.DynamicScope.dynamic_target.Goals as goal

pub returns-in_ok-in_scope-in-Some-clause-ok : goal.returns-in_ok-in_scope-in-Some-clause-ok
returns-in_ok-in_scope-in-Some-clause-ok c = λ s refers known.
    let table = linked_schemas (scope_documents c.args.self.now).now in
    let scope = scope_uris c.args.self.now in
    let same = c.in_ok-first.ensures.linked in
    ap Some (c.in_ok-in_scope-in-Some.ensures.ok (subst (λ (l : Bor Linked). HasResources l.now scope) (sym same) known)
    ∙ ap (λ (l : Bor Linked). followed_in_scope (linked_schemas l.now) scope c.in-Some.first) same)
    ∙ sym (ap (option_map (followed_in_scope table scope)) c.in-Some.is) ∙ (c.in_ok-first.ensures.ok s refers).1 scope
