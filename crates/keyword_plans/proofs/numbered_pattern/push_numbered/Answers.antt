use Rattle.std.proofs.Common.{◌≡◌, ◌∷◌, [], ◌∙◌, Bor, Contains, IfSome, IsTrue, Option, Some, false, is_some, true, map, sym, ap, subst}
use Rattle.std.proofs.lemmas.List.{map-append}
use Rattle.std.proofs.lemmas.List.Elements.{All-append, All-cons, All-nil}
use Rattle.std.specs.List.{All}
use Rattle.definitions.specs.Schemas.{Schema}
use Rattle.definitions.specs.Searches.{patterns_of}
use Rattle.definitions.specs.Values.{Text, Value}
use Rattle.json_doc.specs.Docs.{value, members_value}
use Rattle.json_doc.specs.NamedMembers.{name_text, named_left}
use Rattle.linker.specs.LinkedDocuments.{linked_schemas}
use Rattle.linker.specs.PatternNumbers.{pattern_text}
use Rattle.linker.specs.declared.linked.Linked.{Linked}
use Rattle.linker.specs.declared.pattern_numbers.PatternNumber.{PatternNumber}
use Rattle.keyword_plans.specs.NumberedPatterns.{IsNumbered, numbered_view}
use Rattle.keyword_plans.specs.SearchedIn.{searched_in}
use Rattle.keyword_plans.specs.declared.numbered_pattern.NumberedPattern.{NumberedPattern}
use Rattle.applicators.proofs.Growing.{ended, grown}
use Rattle.keyword_plans.proofs.Matching.{first_pattern, rest_patterns}
use Rattle.keyword_plans.proofs.numbered_pattern.push_numbered.Goals as goal

-- what is told of the number of a pattern, by the documents
abbrev NumbersOf : Text → Text → Option PatternNumber → Bor Linked → Type 0
NumbersOf uri pattern number l =
    (s : Schema) → Contains (linked_schemas l.now) s → s.resource ≡ uri → Contains (patterns_of s) pattern → IfSome number (λ n. pattern_text l.now n ≡ Some pattern)

abbrev HasNumber : Text → Option PatternNumber → Bor Linked → Type 0
HasNumber uri number l = (s : Schema) → Contains (linked_schemas l.now) s → s.resource ≡ uri → IsTrue (is_some number)

pub loop-pattern-preserved-in-Continue-branch-3 : goal.loop-pattern-preserved-in-Continue-branch-3
loop-pattern-preserved-in-Continue-branch-3 c =
    let same = c.in_ok-number.ensures.linked ∙ c.loop-pattern.invariant.searched in
    record {
      searched = same;
      so_far =
          λ s are.
          let l = (searched_in c.args.searches.now).now in
          let uri = c.args.resource.now in
          let so_far = c.loop-pattern.invariant.so_far s are in
          let left = named_left c.loop-pattern.pattern-iterator in
          let p : Text × Value = (name_text c.in-Some.pattern, value c.in-Some.schema.now) in
          let rest = named_left c.next.new.self in
          let e = c.in-Some.ensures.steps in
          let has = subst (Contains (patterns_of s)) (sym c.as_str.ensures) (first_pattern l uri s left p rest e so_far.patterns) in
          let one : NumberedPattern = record { pattern = c.in-Some.pattern; schema = c.in-Some.schema; number = c.in-Some-2.number } in
          let are_numbered = subst (NumbersOf uri c.as_str.result.now c.in_ok-number.field-0) c.loop-pattern.invariant.searched c.in_ok-number.ensures.text s are.inside are.resource has in
          let numbered : IsNumbered l one = subst (λ o. IfSome o (λ n. pattern_text l n ≡ Some c.as_str.result.now)) c.in-Some-2.is are_numbered ∙ ap Some c.as_str.ensures in
          record {
            patterns = rest_patterns l uri s left p rest e so_far.patterns;
            numbered =
                grown (map numbered_view c.loop-pattern.numbered.items) _ (p ∷ []) left rest (members_value c.args.patterns.now)
                (ap (map numbered_view) c.in_ok-push-in-Some-2.ensures.items ∙ map-append numbered_view c.loop-pattern.numbered.items (one ∷ [])) e so_far.numbered;
            numbers = subst (All (IsNumbered l)) (sym c.in_ok-push-in-Some-2.ensures.items)
                (All-append (IsNumbered l) c.loop-pattern.numbered.items (one ∷ []) so_far.numbers (All-cons (IsNumbered l) one [] numbered (All-nil (IsNumbered l))));
          };
    }

pub loop-pattern-preserved : goal.loop-pattern-preserved
loop-pattern-preserved c = record {
  searched = c.in_ok-number.ensures.linked ∙ c.loop-pattern.invariant.searched;
  so_far =
      λ s are.
      let there = subst (HasNumber c.args.resource.now c.in_ok-number.field-0) c.loop-pattern.invariant.searched c.in_ok-number.ensures.there s are.inside are.resource in
      let never : false ≡ true = subst (λ o. IsTrue (is_some o)) c.in-None-2.is there in cc;
}

pub returns-clause-patterns : goal.returns-clause-patterns
returns-clause-patterns c s are =
    ended (map numbered_view c.loop-pattern.numbered.items) (named_left c.loop-pattern.pattern-iterator) (members_value c.args.patterns.now) c.in-None.ensures.steps.0 (c.loop-pattern.invariant.so_far s are).numbered

pub returns-clause-numbers : goal.returns-clause-numbers
returns-clause-numbers c s are = (c.loop-pattern.invariant.so_far s are).numbers
