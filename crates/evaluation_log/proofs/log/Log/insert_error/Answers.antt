use Rattle.std.proofs.Common.{◌∙◌, ap, false}
use Rattle.std.proofs.lemmas.Result.{on_ok_weaker}
use Rattle.basic_output.specs.Parts.{text_of_unit}
use Rattle.basic_output.specs.Sayings.{says_value}
use Rattle.basic_output.specs.Units.{unit_texts}
use Rattle.evaluation_log.specs.Notes.{Lengths, notes_of_both}
use Rattle.evaluation_log.specs.Logs.{log_view}
use Rattle.output_texts.specs.declared.noted_units.NotedUnits.{NotedUnits}
use Rattle.evaluation_log.proofs.LogLaws.{same_notes, inserted_list, errors_of, annotations_of, names_of, indexes_of, tally_of}
use Rattle.evaluation_log.proofs.log.Log.insert_error.Goals as goal

pub returns : goal.returns
unfolding log_view notes_of_both
returns c older more m e =
    on_ok_weaker c.insert.result (λ new.
    same_notes (new ∙ inserted_list c.args.mark.now.errors older.errors more.errors _ (text_of_unit false c.args.location (says_value c.args.says)) (ap (λ (l : Lengths). l.errors) m) (ap (λ (u : NotedUnits). unit_texts u.errors) c.deref_mut.ensures.value ∙ errors_of _ older more e))
    (ap (λ (u : NotedUnits). unit_texts u.annotations) c.deref_mut.ensures.value ∙ annotations_of _ older more e) (names_of _ older more e) (indexes_of _ older more e) (tally_of _ older more e)) c.insert.ensures.ok
