use Rattle.std.proofs.Common.{◌≡◌, ◌∙◌, Some, true, sym, ap}
use Rattle.json_doc.specs.Docs.{value}
use Rattle.json_doc.specs.Kinds.{as_boolean}
use Rattle.applicators.specs.Plans.{part_view, planned_view}
use Rattle.applicators.specs.Subjects.{subject_value}
use Rattle.evaluator.proofs.PlannedLaws.{schema_value_planned}
use Rattle.evaluator.proofs.SilenceLaws.{true_silent}
use Rattle.evaluator.proofs.applying.Evaluation.is_true.Goals as goal

pub returns-then-allowed-clause-silent : goal.returns-then-allowed-clause-silent
returns-then-allowed-clause-silent c a k under all =
    let p = c.args.planned.now in
    let child = (planned_view k a p).1 in
    let same : child.schema.value ≡ value p.schema.now = schema_value_planned k a p.way (value p.schema.now) (part_view p.part) (subject_value p.subject) in
    let is : Some true ≡ as_boolean child.schema.value = ap Some (sym c.if-allowed.true) ∙ c.in-Some.ensures ∙ ap as_boolean (sym same) in
    true_silent c.args.self.now.linked.now c.args.nesting child is (c.has_room.ensures.nests all)
