use Rattle.std.proofs.Common.{Bor, List, subst, sym}
use Rattle.definitions.specs.Values.{Text}
use Rattle.linker.specs.declared.linked.Linked.{Linked}
use Rattle.keyword_plans.specs.LinkedResources.{HasResources}
use Rattle.keyword_plans.specs.ScopeViews.{scope_uris}
use Rattle.keyword_plans.proofs.planning.plan.Goals as goal

pub returns-in-DynamicRef-clause-ok : goal.returns-in-DynamicRef-clause-ok
returns-in-DynamicRef-clause-ok c a run shows documents scope searched beside condition =
    let known = subst (λ (us : List Text). HasResources c.args.application.linked.now us) scope shows.scope in
    rw c.in-DynamicRef.is (c.plan_dynamic_reference.ensures.ok a shows documents scope (subst (λ (l : Bor Linked). HasResources l.now (scope_uris c.args.scope.now)) (sym documents) known) (rw c.in-DynamicRef.is at beside))

pub returns-in-PatternProperties-clause-ok : goal.returns-in-PatternProperties-clause-ok
returns-in-PatternProperties-clause-ok c a run shows documents scope searched beside condition =
    rw c.in-PatternProperties.is (c.plan_patterns.ensures.ok a _ shows searched (rw c.in-PatternProperties.is at beside))

pub returns-in-AdditionalProperties-clause-ok : goal.returns-in-AdditionalProperties-clause-ok
returns-in-AdditionalProperties-clause-ok c a run shows documents scope searched beside condition =
    rw c.in-AdditionalProperties.is (c.plan_others.ensures.ok a _ shows searched)
