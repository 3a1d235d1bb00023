use Rattle.std.proofs.Common.{◌≡◌, ◌++◌, map}
use Rattle.definitions.specs.Values.{Text}
use Rattle.definitions.specs.Applied.{Application}
use Rattle.json_doc.specs.Docs.{value, members_value}
use Rattle.json_doc.specs.NamedMembers.{named_left}
use Rattle.keyword_plans.specs.Applications.{planned_others}
use Rattle.keyword_plans.specs.Beside.{AreTakers}
use Rattle.applicators.specs.Plans.{planned_view}
use Rattle.keyword_plans.specs.SearchedIn.{searched_in}
use Rattle.keyword_plans.proofs.planning.others.push_untaken.Given as goal

-- what is planned, and what the members that are left add, and the searches stay in their documents
abbrev pub invariant-loop-name : goal.invariant-loop-name
invariant-loop-name l =
    record {
      searched : searched_in l.searches ≡ searched_in l.fn.searches;
      planned : (a : Application) (k : Text) → AreTakers (searched_in l.fn.searches).now l.takers a
          → map (planned_view k a) l.planned.items ++ planned_others (searched_in l.fn.searches).now k a (value l.schema) (named_left l.name-iterator)
          ≡ planned_others (searched_in l.fn.searches).now k a (value l.schema) (members_value l.members);
    }
