use Rattle.std.proofs.Common.{[], ◌∷◌, ◌∙◌, sym, ap}
use Rattle.definitions.specs.Outcomes.{unit}
use Rattle.json_doc.specs.Docs.{value}
use Rattle.json_doc.specs.NamedMembers.{name_text, named_left}
use Rattle.evaluation_context.specs.Frames.{frame_standing}
use Rattle.evaluator.specs.Annotations.{annotations_among}
use Rattle.evaluation_log.specs.Logs.{log_view}
use Rattle.evaluation_log.specs.Notes.{notes_of_both}
use Rattle.applicators.specs.Subjects.{subject_value}
use Rattle.evaluator.proofs.AnnotatingLaws.{annotates_there, annotation_here}
use Rattle.evaluation_log.proofs.LogLaws.{added_nothing, annotated, annotated_then}
use Rattle.evaluator.proofs.annotating.note_among.Goals as goal

pub loop-name-preserved-in-Continue-1 : goal.loop-name-preserved-in-Continue-1
loop-name-preserved-in-Continue-1 c = record {
  back = c.in_ok-note_member.ensures.back ∙ c.loop-name.invariant.back;
  documents = c.in_ok-note_member.ensures.documents ∙ c.loop-name.invariant.documents;
  noted = λ a at s i.
      let n = log_view c.loop-name.log in
      let name = name_text c.in-Some.name in
      let v = value c.in-Some.member.now in
      let rest = named_left c.next.new.self in
      let noted = c.in_ok-note_member.ensures.noted a (ap frame_standing c.loop-name.invariant.back ∙ at)
      ∙ ap (λ t. notes_of_both n (annotated (unit a t v ∷ []))) c.as_str.ensures in
      ap (λ m. notes_of_both m (annotated (annotations_among a rest))) noted
      ∙ annotated_then n (unit a name v ∷ []) (annotations_among a rest)
      ∙ ap (λ us. notes_of_both n (annotated us))
      (annotation_here a name v rest
      (annotates_there a (value c.args.schema.now) (subject_value c.args.subject) name c.annotates.result s i c.annotates.ensures ∙ c.if-annotates.true)
      ∙ ap (annotations_among a) (sym c.in-Some.ensures.steps))
      ∙ c.loop-name.invariant.noted a at s i;
}

pub returns-clause-noted : goal.returns-clause-noted
returns-clause-noted c a at s i =
    sym (added_nothing (log_view c.loop-name.log))
    ∙ ap (λ ms. notes_of_both (log_view c.loop-name.log) (annotated (annotations_among a ms))) (sym c.in-None.ensures.steps.0)
    ∙ c.loop-name.invariant.noted a at s i
