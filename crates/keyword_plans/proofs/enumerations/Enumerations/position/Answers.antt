use Rattle.std.proofs.Common.{List, IfOk, length, rules, tests, subst}
use Rattle.std.proofs.lemmas.Fn.{always_returns_same}
use Rattle.std.specs.Cmp.Lexicographic.{slice_cmp}
use Rattle.std.specs.List.{HoldsAt}
use Rattle.std.specs.List.Sorted.{IsSearchInRange}
use Rattle.std.specs.Ordering.{nat_cmp, ordering_then}
use Rattle.locations.specs.Steps.{tokens}
use Rattle.keyword_plans.specs.Enumerated.{IsPlacedAt}
use Rattle.keyword_plans.specs.Places.{steps_order}
use Rattle.keyword_plans.specs.declared.enumerations.Enumeration.{Enumeration}
use Rattle.keyword_plans.proofs.Enumerating.{found_place}
use Rattle.keyword_plans.proofs.enumerations.Enumerations.position.Goals as goal

pub returns : goal.returns
returns c =
    let resource = c.args.resource.now in
    let steps = c.args.steps.now in
    let facts = c.binary_search_by.ensures in
    let position = facts.position (λ (e : Enumeration). ordering_then (slice_cmp nat_cmp e.resource.now resource) (steps_order e.steps.items steps)) (always_returns_same _ _ _ (λ a r g called. search (rules, tests))) in
    record {
      bound = subst (λ (es : List Enumeration). IsSearchInRange c.binary_search_by.result (length es)) c.deref.ensures.value facts.bound;
      found = subst (λ (es : List Enumeration). IfOk c.binary_search_by.result (HoldsAt (IsPlacedAt resource (tokens steps)) es)) c.deref.ensures.value
          (found_place c.deref.result.now resource steps c.binary_search_by.result position);
    }
