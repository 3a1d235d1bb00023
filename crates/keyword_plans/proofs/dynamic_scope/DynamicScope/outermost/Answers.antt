use Rattle.std.proofs.Common.{◌≡◌, Bor, Option, Some, None, true, is_none, is_some, length, map, option_map, refl, sym, ap, ◌∙◌, subst, unwrap_or}
use Rattle.std.proofs.lemmas.List.{length-map}
use Rattle.definitions.specs.Targets.{outermost}
use Rattle.definitions.specs.Values.{Text}
use Rattle.linker.specs.LinkedDocuments.{linked_schemas}
use Rattle.keyword_plans.specs.declared.target.Target.{Target}
use Rattle.keyword_plans.specs.Followed.{target_view}
use Rattle.linker.specs.declared.linked.Linked.{Linked}
use Rattle.keyword_plans.specs.FollowedIn.{followed_in}
use Rattle.keyword_plans.specs.ScopeViews.{scope_documents, scope_uris}
use Rattle.keyword_plans.specs.Searched.{AreSearched}
use Rattle.keyword_plans.proofs.SearchedScopes.{searched_outermost}
use Rattle.keyword_plans.proofs.dynamic_scope.DynamicScope.outermost.Goals as goal

still_none : (found : Option Target) → is_none (option_map target_view found) ≡ true → is_none found ≡ true
still_none None e = refl
still_none (Some t) e = absurd (cc)

not_none : (found : Option Target) → is_some found ≡ true → is_none (option_map target_view found) ≡ true → ⊥
not_none None some none = absurd (cc)
not_none (Some t) some none = absurd (cc)

pub returns-then-is_some-clause-ok : goal.returns-then-is_some-clause-ok
returns-then-is_some-clause-ok c known first =
    let l = (scope_documents c.args.self.now).now in
    let uris = scope_uris c.args.self.now in
    let begun = c.in_ok-begun.begun in
    subst (λ name. unwrap_or (option_map target_view begun.found) first ≡ outermost (linked_schemas l) uris name first) c.in_ok-begun.ensures.name
    (searched_outermost l begun.name.now uris begun.passed known first (option_map target_view begun.found)
    (subst (λ (d : Bor Linked). AreSearched d.now uris begun.name.now begun.passed (option_map target_view begun.found)) c.in_ok-number.ensures.linked c.in_ok-begun.ensures.right.searched)
    (λ none. absurd (not_none begun.found (sym c.is_some.ensures ∙ c.if-is_some.true) none)))

pub returns-clause-ok : goal.returns-clause-ok
returns-clause-ok c known first =
    let l = (scope_documents c.args.self.now).now in
    let uris = scope_uris c.args.self.now in
    let searched = c.in_ok-searched.searched in
    let name : searched.name.now ≡ c.args.name.now = c.in_ok-searched.ensures.name ∙ c.in_ok-begun.ensures.name in
    let same : map (λ (u : Bor Text). u.now) c.deref.result.now ≡ uris = ap (map (λ (u : Bor Text). u.now)) c.deref.ensures.value in
    let long = sym (length-map c.deref.result.now (λ (u : Bor Text). u.now)) ∙ ap length same in
    let right = c.in_ok-searched.ensures.right in
    ap (λ o. unwrap_or o first) c.in_ok-found.ensures
    ∙ subst (λ n. unwrap_or (option_map target_view searched.found) first ≡ outermost (linked_schemas l) uris n first) name
    (searched_outermost l searched.name.now uris searched.passed known first (option_map target_view searched.found)
    (subst (λ (d : Bor Linked). AreSearched d.now uris searched.name.now searched.passed (option_map target_view searched.found)) c.in_ok-number.ensures.linked
    (subst (λ us. AreSearched (followed_in c.anchor_number.new.self).now us searched.name.now searched.passed (option_map target_view searched.found)) same right.searched))
    (λ none. c.in_ok-searched.ensures.whole (still_none searched.found none) ∙ long))
