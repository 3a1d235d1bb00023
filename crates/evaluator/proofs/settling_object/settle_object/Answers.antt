use Rattle.std.proofs.Common.{◌≡◌, [], true, false, ◌∙◌, sym, ap}
use Rattle.std.specs.List.{list_all}
use Rattle.std.proofs.lemmas.Result.{on_ok_weaker}
use Rattle.definitions.specs.Applied.{Application}
use Rattle.definitions.specs.Outcomes.{Use, other_annotations}
use Rattle.json_doc.specs.Docs.{value}
use Rattle.applicators.specs.Subjects.{subject_value}
use Rattle.evaluation_context.specs.Frames.{context_view, frame_standing}
use Rattle.evaluation_log.specs.Notes.{Notes, notes_of_both, object_notes}
use Rattle.evaluator.proofs.CombinedLaws.{failing_object, passing_object, stands_there}
use Rattle.evaluation_log.proofs.LogLaws.{added_twice, annotated}
use Rattle.evaluator.proofs.settling_object.settle_object.Goals as goal

pub returns-then-valid-clause-noted : goal.returns-then-valid-clause-noted
returns-then-valid-clause-noted c a older us at m n v =
    let others = annotated (other_annotations a) in
    let all : list_all (λ (u : Use). u.passes) us ≡ true = sym v ∙ c.if-valid.true in
    on_ok_weaker c.note_others.result (λ e.
    e ∙ ap (λ (k : Notes). notes_of_both k others) n ∙ added_twice older (object_notes a us) others ∙ ap (notes_of_both older) (passing_object a us all))
    (c.note_others.ensures.noted a (stands_there (frame_standing (context_view c.args.context.now)) (value c.args.present.now.schema.now) (subject_value c.args.subject) a at)
    (ap (λ (b : Application). b.schema.value) at) (ap (λ (b : Application). b.instance) at))

pub returns-else-valid-clause-noted : goal.returns-else-valid-clause-noted
returns-else-valid-clause-noted c a older us at m n v =
    let noted = object_notes a us in
    let fails : list_all (λ (u : Use). u.passes) us ≡ false = sym v ∙ c.if-valid.false in
    c.cut_evaluated.ensures older (record noted { annotations = [] }) m (c.cut_annotations.ensures older noted m n) ∙ ap (notes_of_both older) (failing_object a us fails)
