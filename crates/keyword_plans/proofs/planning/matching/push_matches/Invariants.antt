use Rattle.std.proofs.Common.{◌≡◌, ◌++◌, drop, map}
use Rattle.std.specs.List.{All}
use Rattle.definitions.specs.Values.{Text}
use Rattle.definitions.specs.Applied.{Application}
use Rattle.json_doc.specs.Docs.{value}
use Rattle.json_doc.specs.NamedMembers.{name_text}
use Rattle.keyword_plans.specs.Applications.{planned_matches}
use Rattle.keyword_plans.specs.NumberedPatterns.{IsNumbered, numbered_view}
use Rattle.keyword_plans.specs.SearchedIn.{searched_in}
use Rattle.applicators.specs.Plans.{planned_view}
use Rattle.keyword_plans.proofs.planning.matching.push_matches.Given as goal

-- what is planned, and what the patterns that are left add, and the searches stay in their documents
abbrev pub invariant-loop-one : goal.invariant-loop-one
invariant-loop-one l =
    record {
      searched : searched_in l.searches ≡ searched_in l.fn.searches;
      planned : (a : Application) (k : Text) → All (IsNumbered (searched_in l.fn.searches).now) l.patterns
          → map (planned_view k a) l.planned.items ++ planned_matches k a (name_text l.name) (value l.member) (map numbered_view (drop l.one-index l.patterns))
          ≡ map (planned_view k a) l.initial.planned.items ++ planned_matches k a (name_text l.name) (value l.member) (map numbered_view l.patterns);
    }
