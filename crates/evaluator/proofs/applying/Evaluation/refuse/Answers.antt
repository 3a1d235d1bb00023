use Rattle.std.proofs.Common.{[], ◌∷◌, ◌∙◌, false, ap}
use Rattle.definitions.specs.Values.{Text}
use Rattle.basic_output.specs.Pieces.{unit_text}
use Rattle.basic_output.specs.Sayings.{says_value}
use Rattle.basic_output.specs.declared.says.Says.TheVariants.{NotMet}
use Rattle.keywords.specs.Rows.{row_of}
use Rattle.evaluation_context.specs.Frames.{frame_standing}
use Rattle.evaluation_context.specs.Standings.{Standing, at_keyword, unit_there}
use Rattle.evaluation_log.specs.Logs.{log_view}
use Rattle.evaluation_log.specs.Notes.{no_notes, notes_of_both}
use Rattle.evaluator.proofs.applying.Evaluation.refuse.Goals as goal

pub returns-clause-noted : goal.returns-clause-noted
returns-clause-noted c a is =
    c.in_ok-push_error.ensures
    ∙ ap (λ (u : Text). notes_of_both (log_view c.args.self.now.log) (record no_notes { errors = u ∷ [] }))
    (c.location.ensures false (says_value (NotMet c.args.keyword))
    ∙ ap (unit_text false) (ap (λ f. unit_there (frame_standing f) (says_value (NotMet c.args.keyword))) c.write_locations.ensures.same
    ∙ ap (λ (st : Standing). unit_there st (says_value (NotMet c.args.keyword))) (c.in_ok-enter_keyword.ensures.there ∙ ap (at_keyword (row_of c.args.keyword).name) is)))
