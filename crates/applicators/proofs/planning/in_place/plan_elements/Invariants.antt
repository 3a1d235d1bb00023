use Rattle.std.proofs.Common.{◌≡◌, ◌++◌, map, drop}
use Rattle.definitions.specs.Values.{Text}
use Rattle.definitions.specs.Applied.{Application}
use Rattle.applicators.specs.Applications.{planned_elements}
use Rattle.json_doc.specs.Docs.{value}
use Rattle.applicators.specs.Subjects.{subject_value}
use Rattle.applicators.specs.Plans.{planned_view}
use Rattle.applicators.proofs.planning.in_place.plan_elements.Given as goal

-- what is planned, and what the schemas that are left add
abbrev pub invariant-loop-index : goal.invariant-loop-index
invariant-loop-index l =
    (a : Application) (k : Text) → a.instance ≡ subject_value l.subject
    → map (planned_view k a) l.planned.items ++ planned_elements k a l.index (map value (drop l.index l.schemas)) ≡ planned_elements k a 0 (map value l.schemas)
