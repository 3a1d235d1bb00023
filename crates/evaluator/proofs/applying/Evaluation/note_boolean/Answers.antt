use Rattle.std.proofs.Common.{[], ◌∷◌, ◌∙◌, false, ap, sym}
use Rattle.definitions.specs.Outcomes.{false_unit}
use Rattle.definitions.specs.Values.{Text}
use Rattle.basic_output.specs.declared.says.Says.TheVariants.{NotAllowed}
use Rattle.basic_output.specs.Pieces.{unit_text}
use Rattle.basic_output.specs.Sayings.{says_value}
use Rattle.evaluation_context.specs.Frames.{frame_standing}
use Rattle.evaluation_context.specs.Standings.{unit_there}
use Rattle.evaluation_log.specs.Logs.{log_view}
use Rattle.evaluation_log.specs.Notes.{no_notes, notes_of_both}
use Rattle.evaluation_log.proofs.LogLaws.{error_after}
use Rattle.evaluator.proofs.applying.Evaluation.note_boolean.Goals as goal

pub returns-then-allowed-clause-noted : goal.returns-then-allowed-clause-noted
returns-then-allowed-clause-noted c a s x e = rw c.if-allowed.true c.count_one.ensures

pub returns-clause-noted : goal.returns-clause-noted
returns-clause-noted c a s x e =
    rw c.if-allowed.false
    (c.in_ok-push_error.ensures
    ∙ ap (λ (u : Text). notes_of_both (log_view c.count_one.new.self) (record no_notes { errors = u ∷ [] }))
    (c.location.ensures false (says_value NotAllowed) ∙ ap (unit_text false) (ap (λ f. unit_there (frame_standing f) (says_value NotAllowed)) c.write_locations.ensures.same ∙ sym (ap false_unit e)))
    ∙ error_after (log_view c.args.self.now.log) (log_view c.count_one.new.self) (unit_text false (false_unit a)) c.count_one.ensures)
