use Rattle.std.proofs.Common.{◌∙◌, ◌∷◌, ◌++◌, [], false, ap, sym, append-nil}
use Rattle.std.proofs.lemmas.Result.{on_ok_weaker}
use Rattle.basic_output.specs.Parts.{text_of_unit}
use Rattle.basic_output.specs.Sayings.{says_value}
use Rattle.basic_output.specs.Units.{unit_texts}
use Rattle.evaluation_log.specs.Notes.{notes_of_both}
use Rattle.evaluation_log.specs.Logs.{log_view}
use Rattle.output_texts.specs.declared.noted_units.NotedUnits.{NotedUnits}
use Rattle.evaluation_log.proofs.LogLaws.{same_notes, tallied_nothing}
use Rattle.evaluation_log.proofs.log.Log.push_error.Goals as goal

pub returns : goal.returns
unfolding log_view notes_of_both
returns c =
    on_ok_weaker c.push.result (λ e.
    same_notes (e ∙ ap (λ (u : NotedUnits). unit_texts u.errors ++ text_of_unit false c.args.location (says_value c.args.says) ∷ []) c.deref_mut.ensures.value) (ap (λ (u : NotedUnits). unit_texts u.annotations) c.deref_mut.ensures.value ∙ sym (append-nil _)) (sym (append-nil _)) (sym (append-nil _)) (sym (tallied_nothing _))) c.push.ensures.ok
