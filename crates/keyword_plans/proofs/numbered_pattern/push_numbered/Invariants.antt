use Rattle.std.proofs.Common.{◌≡◌, ◌++◌, map}
use Rattle.std.specs.List.{All}
use Rattle.definitions.specs.Schemas.{Schema}
use Rattle.json_doc.specs.Docs.{members_value}
use Rattle.json_doc.specs.NamedMembers.{named_left}
use Rattle.keyword_plans.specs.Applications.{ArePatternsOf}
use Rattle.keyword_plans.specs.NumberedPatterns.{IsNumbered, numbered_view}
use Rattle.keyword_plans.specs.SearchedIn.{searched_in}
use Rattle.keyword_plans.proofs.numbered_pattern.push_numbered.Given as goal

-- what was appended, and the patterns that are left
abbrev pub invariant-loop-pattern : goal.invariant-loop-pattern
invariant-loop-pattern l =
    record {
      searched : searched_in l.searches ≡ searched_in l.fn.searches;
      so_far :
          (s : Schema) → ArePatternsOf (searched_in l.fn.searches).now l.resource s (members_value l.patterns) →
          record {
            patterns : ArePatternsOf (searched_in l.fn.searches).now l.resource s (named_left l.pattern-iterator);
            numbered : map numbered_view l.numbered.items ++ named_left l.pattern-iterator ≡ members_value l.patterns;
            numbers : All (IsNumbered (searched_in l.fn.searches).now) l.numbered.items;
          };
    }
