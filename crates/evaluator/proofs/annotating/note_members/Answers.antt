use Rattle.std.proofs.Common.{◌≡◌, ◌∙◌, ap, subst, OnOk}
use Rattle.json_doc.specs.Docs.{members_value}
use Rattle.json_doc.specs.Members.{members_left}
use Rattle.evaluation_context.specs.Frames.{frame_standing}
use Rattle.evaluator.specs.Annotations.{annotations_among}
use Rattle.evaluation_log.specs.Logs.{log_view}
use Rattle.evaluation_log.specs.Notes.{notes_of_both}
use Rattle.evaluator.proofs.DollarLaws.{annotations_around}
use Rattle.evaluation_log.proofs.LogLaws.{annotated, annotated_then}
use Rattle.evaluator.proofs.annotating.note_members.Goals as goal

pub returns-then-not-are_many-clause-noted : goal.returns-then-not-are_many-clause-noted
returns-then-not-are_many-clause-noted c a at s i =
    subst (λ ms. OnOk c.note_among.result (log_view c.note_among.new.log ≡ notes_of_both (log_view c.args.log.now) (annotated (annotations_among a ms))))
    c.iter.ensures.all (c.note_among.ensures.noted a at s i)

pub returns-clause-noted : goal.returns-clause-noted
returns-clause-noted c a at s i =
    let cut = c.cut_at_dollar_names-cut in
    let before = members_left cut.result.before in
    let after = members_left cut.result.after in
    let n = log_view c.args.log.now in
    subst (λ m. OnOk c.note_among-3.result (log_view c.note_among-3.new.log ≡ m))
    (ap (λ m. notes_of_both m (annotated (annotations_among a after))) (c.in_ok-note_among.ensures.noted a at s i)
    ∙ annotated_then n (annotations_among a before) (annotations_among a after)
    ∙ ap (λ us. notes_of_both n (annotated us)) (annotations_around a before (members_left cut.result.within) after (members_value c.args.members.now) cut.ensures.all cut.ensures.within))
    (c.note_among-3.ensures.noted a (ap frame_standing c.in_ok-note_among.ensures.back ∙ at) s i)
