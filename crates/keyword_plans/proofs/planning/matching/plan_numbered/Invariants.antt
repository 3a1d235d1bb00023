use Rattle.std.proofs.Common.{◌≡◌, ◌++◌, map}
use Rattle.std.specs.List.{All}
use Rattle.definitions.specs.Values.{Text}
use Rattle.definitions.specs.Applied.{Application}
use Rattle.json_doc.specs.Docs.{members_value}
use Rattle.json_doc.specs.NamedMembers.{named_left}
use Rattle.keyword_plans.specs.Applications.{planned_pattern}
use Rattle.keyword_plans.specs.NumberedPatterns.{IsNumbered, numbered_view}
use Rattle.applicators.specs.Plans.{planned_view}
use Rattle.keyword_plans.specs.SearchedIn.{searched_in}
use Rattle.keyword_plans.proofs.planning.matching.plan_numbered.Given as goal

-- what is planned, and what the members that are left add, and the searches stay in their documents
abbrev pub invariant-loop-name : goal.invariant-loop-name
invariant-loop-name l =
    record {
      searched : searched_in l.searches ≡ searched_in l.fn.searches;
      planned : (a : Application) (k : Text) → All (IsNumbered (searched_in l.fn.searches).now) l.patterns
          → map (planned_view k a) l.planned.items ++ planned_pattern k a (map numbered_view l.patterns) (named_left l.name-iterator)
          ≡ planned_pattern k a (map numbered_view l.patterns) (members_value l.members);
    }
