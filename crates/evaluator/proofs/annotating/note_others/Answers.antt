use Rattle.std.proofs.Common.{◌≡◌, ◌∙◌, refl, sym, ap, subst, OnOk}
use Rattle.json_doc.specs.Docs.{value, members_value}
use Rattle.evaluation_log.specs.Logs.{log_view}
use Rattle.evaluation_log.specs.Notes.{notes_of_both}
use Rattle.evaluator.proofs.AnnotatingLaws.{no_others, others_are}
use Rattle.evaluation_log.proofs.LogLaws.{added_nothing, annotated}
use Rattle.evaluator.proofs.annotating.note_others.Goals as goal

pub returns-then-not-may_annotate : goal.returns-then-not-may_annotate
returns-then-not-may_annotate c = record {
  back = refl;
  documents = refl;
  noted = λ a at s i.
      sym (added_nothing (log_view c.args.log.now))
      ∙ ap (λ us. notes_of_both (log_view c.args.log.now) (annotated us)) (sym (c.may_annotate.ensures a s c.if-not-may_annotate.true));
}

pub returns-in-None : goal.returns-in-None
returns-in-None c = record {
  back = refl;
  documents = refl;
  noted = λ a at s i.
      sym (added_nothing (log_view c.args.log.now))
      ∙ ap (λ us. notes_of_both (log_view c.args.log.now) (annotated us)) (no_others a (value c.args.present.now.schema.now) s c.in-None.ensures);
}

pub returns-in-Some-clause-noted : goal.returns-in-Some-clause-noted
returns-in-Some-clause-noted c a at s i =
    subst (λ us. OnOk c.note_members.result (log_view c.note_members.new.log ≡ notes_of_both (log_view c.args.log.now) (annotated us)))
    (others_are a (value c.args.present.now.schema.now) (members_value c.in-Some.members.now) s c.in-Some.ensures) (c.note_members.ensures.noted a at s i)
