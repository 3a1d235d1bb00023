use Rattle.std.proofs.Common.{◌≡◌, ◌-◌, ℕ, Ok, length, take}
use Rattle.definitions.specs.Applied.{Application}
use Rattle.json_doc.specs.Docs.{value}
use Rattle.applicators.specs.Subjects.{subject_value}
use Rattle.evaluation_context.specs.Frames.{context_view}
use Rattle.evaluator.specs.Applying.{HasUses}
use Rattle.evaluator.specs.Groups.{first_groups}
use Rattle.evaluator.specs.Rounds.{IsAt, groups_uses}
use Rattle.evaluator.proofs.applying.Evaluation.use_assertions.Given as goal

-- what the groups so far say and noted
abbrev pub invariant-loop-next : goal.invariant-loop-next
invariant-loop-next l =
    record {
      linked : l.self.linked ≡ l.fn.self.linked;
      back : context_view l.self.context ≡ context_view l.fn.self.context;
      outcome : (a : Application) (left : ℕ) → IsAt l.fn.self.linked.now (context_view l.fn.self.context) (value l.schema_use.present.now.schema.now) (subject_value l.schema_use.subject) a
          → HasUses l.fn.self l.self (Ok l.valid) a (groups_uses l.fn.self.linked.now left a (take l.next first_groups));
    }

abbrev pub decreases-loop-next : goal.decreases-loop-next
decreases-loop-next l = length l.groups - l.next
