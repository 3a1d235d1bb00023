-- The sorted values of an `enum`, and what they say of an instance.
use Rattle.std.proofs.Common.{◌≡◌, ℕ, List, Equal, Result, Ok, Err, IfOk, Vec, Global, get_or, sym, ap, ap₂, ◌∙◌}
use Rattle.std.specs.Cmp.Lexicographic.{slice_cmp}
use Rattle.std.specs.List.{HoldsAt, list_any}
use Rattle.std.specs.List.Sorted.{IsBinarySearchResult}
use Rattle.std.specs.Ordering.{nat_cmp, ordering_then}
use Rattle.definitions.specs.Assertions.{enum_of, holds, is_one_of}
use Rattle.definitions.specs.Values.{Text, Value, same}
use Rattle.definition_laws.proofs.PlacedDocuments.{tied}
use Rattle.assertions.proofs.Elements.{is_one_of-List}
use Rattle.json_doc.specs.Docs.{value}
use Rattle.json_doc.specs.declared.doc.Doc.{Doc, List as DocList}
use Rattle.json_doc.proofs.Views.{value-List}
use Rattle.locations.specs.declared.step.Step.{Step}
use Rattle.keyword_plans.specs.Enumerated.{IsPlacedAt}
use Rattle.keyword_plans.specs.Places.{steps_order}
use Rattle.keyword_plans.specs.declared.enumerations.Enumeration.{Enumeration}
use Rattle.locations.specs.Steps.{tokens}
use Rattle.keyword_plans.proofs.PlaceOrders.{both_equal, equal_steps}

-- a list of values holds of what is one of them
listed : (vs : Vec Doc Global) (x : Value) → holds enum_of (value (DocList vs)) x ≡ is_one_of x (value (DocList vs))
listed vs x = ap (λ v. holds enum_of v x) (value-List vs) ∙ sym (ap (is_one_of x) (value-List vs))

pub found_among : (vs : Vec Doc Global) (x : Value) → list_any (λ d. same x (value d)) vs.items ≡ holds enum_of (value (DocList vs)) x
found_among vs x = sym (is_one_of-List x vs) ∙ sym (listed vs x)

-- what a search for a place finds stands there
placed : (e : Enumeration) (resource : Text) (steps : List Step) → ordering_then (slice_cmp nat_cmp e.resource.now resource) (steps_order e.steps.items steps) ≡ Equal
    → IsPlacedAt resource (tokens steps) e
placed e resource steps equal =
    let both = both_equal (slice_cmp nat_cmp e.resource.now resource) (steps_order e.steps.items steps) equal in
    ap₂ (λ r p. (r, p)) (tied e.resource.now resource both.0) (equal_steps e.steps.items steps both.1)

pub found_place : (es : List Enumeration) (resource : Text) (steps : List Step) (r : Result ℕ ℕ)
    → IsBinarySearchResult (λ (e : Enumeration). ordering_then (slice_cmp nat_cmp e.resource.now resource) (steps_order e.steps.items steps)) es r
    → IfOk r (HoldsAt (IsPlacedAt resource (tokens steps)) es)
found_place es resource steps (Ok i) found = λ d. placed (get_or es i d) resource steps (found d)
found_place es resource steps (Err i) found = tt
