use Rattle.std.proofs.Common.{◌≡◌, drop, map}
use Rattle.std.specs.List.{All, list_any}
use Rattle.definitions.specs.Patterns.{has_match}
use Rattle.keyword_plans.specs.NumberedPatterns.{IsNumbered, numbered_view}
use Rattle.keyword_plans.specs.SearchedIn.{searched_in}
use Rattle.keyword_plans.proofs.planning.matching.is_matched.Given as goal

-- the patterns before match nothing, and the searches stay in their documents
abbrev pub invariant-loop-one : goal.invariant-loop-one
invariant-loop-one l =
    record {
      searched : searched_in l.searches ≡ searched_in l.fn.searches;
      matches : All (IsNumbered (searched_in l.fn.searches).now) l.patterns
          → list_any (λ p. has_match p.0 l.name) (map numbered_view l.patterns) ≡ list_any (λ p. has_match p.0 l.name) (map numbered_view (drop l.one-index l.patterns));
    }
