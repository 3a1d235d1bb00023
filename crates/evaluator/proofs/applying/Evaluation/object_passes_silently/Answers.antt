use Rattle.std.proofs.Common.{◌≡◌, ◌∙◌, ◌-◌, None, sym, ap, subst, false, true}
use Rattle.std.proofs.lemmas.Result.{IfOk-weaker}
use Rattle.std.specs.List.{list_all}
use Rattle.definitions.specs.Outcomes.{is_running}
use Rattle.definitions.specs.Values.{members}
use Rattle.json_doc.specs.Docs.{members_value, value}
use Rattle.json_doc.specs.Kinds.{as_boolean}
use Rattle.json_doc.proofs.Views.{value-Dict}
use Rattle.applicators.specs.Plans.{part_view, planned_view}
use Rattle.applicators.specs.Subjects.{subject_value}
use Rattle.evaluation_context.specs.Frames.{context_view, frame_standing}
use Rattle.evaluator.specs.Leaves.{HasLeafMarks, IsLeaf}
use Rattle.evaluator.specs.Silences.{is_member_met}
use Rattle.evaluator.proofs.LeafLaws.{annotating_last, leaf_by_marks}
use Rattle.evaluator.proofs.MetLaws.{alone_marks, alone_met, met_silent}
use Rattle.evaluator.proofs.PlannedLaws.{instance_planned, schema_value_planned}
use Rattle.evaluator.proofs.PresentLaws.{nothing_annotates}
use Rattle.evaluator.proofs.SilenceLaws.{apart_below, leaf_silent}
use Rattle.evaluator.proofs.applying.Evaluation.object_passes_silently.Goals as goal

pub returns-in-Dict-clause-silent : goal.returns-in-Dict-clause-silent
returns-in-Dict-clause-silent c a k under =
    let p = c.args.planned.now in
    let l = c.args.self.now.linked.now in
    let left = c.args.nesting in
    let s = value p.schema.now in
    let child = (planned_view k a p).1 in
    let same : child.schema.value ≡ s = schema_value_planned k a p.way s (part_view p.part) (subject_value p.subject) in
    let instance : child.instance ≡ subject_value p.subject = instance_planned k a p.way s (part_view p.part) (subject_value p.subject) in
    let object = ap value c.in-Dict.is ∙ value-Dict c.in-Dict.members in
    let own : members s ≡ members_value c.in-Dict.members = ap members object in
    let other : None ≡ as_boolean s = sym (ap as_boolean object) in
    let apart : is_running child ≡ false =
    apart_below (frame_standing (context_view c.args.self.now.context)) k a p under (λ i. c.is_above.ensures i c.if-not-is_above.false) in
    IfOk-weaker c.are_met.result _ _
    (λ b met all.
    let alone = met all in
    let marked : HasLeafMarks (members s) = subst HasLeafMarks (sym own) (alone_marks (subject_value p.subject) (members_value c.in-Dict.members) alone) in
    let leaf : IsLeaf s = leaf_by_marks s marked in
    let held : list_all (is_member_met child.instance) (members child.schema.value) ≡ true =
    ap (λ x. list_all (is_member_met x) (members child.schema.value)) instance
    ∙ ap (list_all (is_member_met (subject_value p.subject))) (ap members same ∙ own) ∙ alone_met (subject_value p.subject) (members_value c.in-Dict.members) alone in
    leaf_silent l left child s same leaf (rw same other) apart (c.has_room.ensures.nests c.if-not-has_room.false)
    (nothing_annotates child s same (marked 63 annotating_last)) (met_silent l (left - 1) child s same leaf held))
    c.are_met.ensures.met
