use Rattle.std.proofs.Common.{◌≡◌, Ok, take, length, Contains, ◌≤◌, ◌+◌, ◌-◌, ◌*◌}
use Rattle.definitions.specs.Applied.{Application}
use Rattle.json_doc.specs.Docs.{value}
use Rattle.keyword_plans.specs.Applications.{named_count}
use Rattle.applicators.specs.Subjects.{subject_value}
use Rattle.evaluation_context.specs.Frames.{context_view}
use Rattle.evaluator.specs.Applying.{HasUses}
use Rattle.evaluator.specs.Findings.{FindsAll}
use Rattle.evaluator.specs.Groups.{first_groups}
use Rattle.evaluation_log.specs.Logs.{log_view}
use Rattle.evaluation_log.specs.Notes.{notes_of_both, parts_notes}
use Rattle.evaluator.specs.Rounds.{IsAt, groups_uses, IsKnown, IsUnder, part_outcomes}
use Rattle.keywords.specs.Rows.{row_of}
use Rattle.applicators.specs.declared.planned.Planned.{Planned}
use Rattle.evaluator.proofs.applying.Evaluation.+apply.Given as goal

abbrev pub decreases-apply_object : goal.decreases-apply_object
decreases-apply_object l = 16 * l.nesting + 15

abbrev pub decreases-use_keywords : goal.decreases-use_keywords
decreases-use_keywords l = 16 * l.nesting + 14

abbrev pub decreases-use_groups : goal.decreases-use_groups
decreases-use_groups l = 16 * l.nesting + 13

abbrev pub decreases-use_group : goal.decreases-use_group
decreases-use_group l = 16 * l.nesting + 12

abbrev pub decreases-use_conditional : goal.decreases-use_conditional
decreases-use_conditional l = 16 * l.nesting + 11

abbrev pub decreases-use_counted : goal.decreases-use_counted
decreases-use_counted l = 16 * l.nesting + 10

abbrev pub decreases-use_one : goal.decreases-use_one
decreases-use_one l = 16 * l.nesting + 9

abbrev pub decreases-use_two : goal.decreases-use_two
decreases-use_two l = 16 * l.nesting + 8

abbrev pub decreases-use_named : goal.decreases-use_named
decreases-use_named l = 16 * l.nesting + 7

abbrev pub decreases-use_keyword : goal.decreases-use_keyword
decreases-use_keyword l = 16 * l.nesting + 6

abbrev pub decreases-apply_all : goal.decreases-apply_all
decreases-apply_all l = 16 * l.nesting + 5

abbrev pub decreases-apply_part : goal.decreases-apply_part
decreases-apply_part l = 16 * l.nesting + 4

abbrev pub decreases-apply_planned : goal.decreases-apply_planned
decreases-apply_planned l = 16 * l.nesting + 3

abbrev pub decreases-apply_entered : goal.decreases-apply_entered
decreases-apply_entered l = 16 * l.nesting + 2

abbrev pub decreases-apply : goal.decreases-apply
decreases-apply l = 16 * l.nesting + 1

abbrev pub decreases-apply_other : goal.decreases-apply_other
decreases-apply_other l = 16 * l.nesting

abbrev pub decreases-use_groups-loop-next : goal.decreases-use_groups-loop-next
decreases-use_groups-loop-next l = length l.groups - l.next

-- what the groups so far say and noted
abbrev pub invariant-use_groups-loop-next : goal.invariant-use_groups-loop-next
invariant-use_groups-loop-next l =
    record {
      linked : l.self.linked ≡ l.fn.self.linked;
      back : context_view l.self.context ≡ context_view l.fn.self.context;
      outcome : (a : Application) → IsAt l.fn.self.linked.now (context_view l.fn.self.context) (value l.schema_use.present.now.schema.now) (subject_value l.schema_use.subject) a
          → HasUses l.fn.self l.self (Ok l.valid) a (groups_uses l.fn.self.linked.now l.nesting a (take l.next first_groups));
      named : (a : Application) → IsAt l.fn.self.linked.now (context_view l.fn.self.context) (value l.schema_use.present.now.schema.now) (subject_value l.schema_use.subject) a
          → l.named ≤ named_count a;
    }

-- what the schemas applied so far found and noted
abbrev pub invariant-apply_all-loop-one : goal.invariant-apply_all-loop-one
invariant-apply_all-loop-one l =
    record {
      linked : l.self.linked ≡ l.fn.self.linked;
      back : context_view l.self.context ≡ context_view l.fn.self.context;
      number : l.applied.number ≡ l.one-index;
      passing : l.applied.passing ≤ l.applied.number;
      found : (a : Application) → IsUnder (context_view l.fn.self.context) (row_of l.keyword).name a
          → ((p : Planned) → Contains l.planned.items p → IsKnown l.fn.self.linked.now (row_of l.keyword).name a p)
          → FindsAll l.applied (part_outcomes l.fn.self.linked.now l.nesting (row_of l.keyword).name a (take l.one-index l.one-items));
      noted : (a : Application) → IsUnder (context_view l.fn.self.context) (row_of l.keyword).name a
          → ((p : Planned) → Contains l.planned.items p → IsKnown l.fn.self.linked.now (row_of l.keyword).name a p)
          → log_view l.self.log
          ≡ notes_of_both (log_view l.fn.self.log) (parts_notes (row_of l.keyword).meaning (part_outcomes l.fn.self.linked.now l.nesting (row_of l.keyword).name a (take l.one-index l.one-items)));
    }
