use Rattle.std.proofs.Common.{◌++◌, ◌∷◌, [], List, Bor, Bool, true, false, cond, is_ok, map, get_or, subst, sym}
use Rattle.std.proofs.lemmas.List.{map_push}
use Rattle.std.specs.List.{All}
use Rattle.definitions.specs.Values.{Text}
use Rattle.linker.specs.declared.linked.Linked.{Linked}
use Rattle.keyword_plans.specs.Searched.{IsSearched}
use Rattle.keyword_plans.specs.declared.dynamic_scope.SearchedAnchor.{SearchedAnchor}
use Rattle.keyword_plans.proofs.SearchedScopes.{pushed_searched}
use Rattle.keyword_plans.proofs.dynamic_scope.DynamicScope.push.Goals as goal

pushed_or_not : (l : Linked) (uris : List (Bor Text)) (uri : Bor Text) (ss : List SearchedAnchor) (pushed : Bool) → All (IsSearched l (map (λ u. u.now) uris)) ss
    → All (IsSearched l (map (λ u. u.now) (cond pushed (uris ++ uri ∷ []) uris))) ss
pushed_or_not l uris uri ss true all = λ k d lt.
    subst (λ ts. IsSearched l ts (get_or ss k d)) (sym (map_push (λ (u : Bor Text). u.now) uris uri))
    (let s = all k d lt in record { anchor = s.anchor; number = s.number; searched = pushed_searched l _ (map (λ u. u.now) uris) uri.now _ _ s.searched })
pushed_or_not l uris uri ss false all = all

pub invariant_of-self-clause-right : goal.invariant_of-self-clause-right
invariant_of-self-clause-right c =
    let before = c.args.self.now in
    subst (λ us. All (IsSearched before.references.linked.now (map (λ u. u.now) us)) before.searched.items) (sym c.push.ensures.items)
    (pushed_or_not before.references.linked.now before.uris.items c.args.uri before.searched.items (is_ok c.push.result) before.right)
