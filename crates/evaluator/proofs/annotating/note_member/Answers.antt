use Rattle.std.proofs.Common.{[], ◌∷◌, ◌∙◌, true, ap}
use Rattle.definitions.specs.Values.{Text}
use Rattle.json_doc.specs.Docs.{value}
use Rattle.basic_output.specs.Pieces.{unit_text}
use Rattle.evaluation_context.specs.Frames.{frame_standing}
use Rattle.evaluation_context.specs.Standings.{Standing, at_keyword, unit_there}
use Rattle.evaluation_log.specs.Logs.{log_view}
use Rattle.evaluation_log.specs.Notes.{no_notes, notes_of_both}
use Rattle.evaluator.proofs.annotating.note_member.Goals as goal

pub returns-clause-noted : goal.returns-clause-noted
returns-clause-noted c a is =
    c.in_ok-push_annotation.ensures
    ∙ ap (λ (u : Text). notes_of_both (log_view c.args.log.now) (record no_notes { annotations = u ∷ [] }))
    (c.location.ensures true (value c.args.member.now)
    ∙ ap (unit_text true) (ap (λ f. unit_there (frame_standing f) (value c.args.member.now)) c.write_locations.ensures.same
    ∙ ap (λ (st : Standing). unit_there st (value c.args.member.now)) (c.in_ok-enter_name.ensures.there ∙ ap (at_keyword c.args.name.now) is)))
