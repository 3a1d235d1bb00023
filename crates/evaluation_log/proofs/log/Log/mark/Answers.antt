use Rattle.std.proofs.Common.{◌∙◌, ap, length, sym}
use Rattle.std.proofs.lemmas.List.{length-map}
use Rattle.json_doc.specs.NamedMembers.{name_text}
use Rattle.basic_output.specs.Units.{unit_texts}
use Rattle.evaluation_log.specs.Logs.{log_view}
use Rattle.output_texts.specs.declared.noted_units.NotedUnits.{NotedUnits}
use Rattle.evaluation_log.proofs.LogLaws.{same_lengths}
use Rattle.evaluation_log.proofs.log.Log.mark.Goals as goal

pub returns : goal.returns
unfolding log_view
returns c =
    let log = c.args.self.now in
    same_lengths (c.mark.ensures ∙ ap (λ (u : NotedUnits). length (unit_texts u.errors)) c.deref.ensures)
    (c.mark-2.ensures ∙ ap (λ (u : NotedUnits). length (unit_texts u.annotations)) c.deref-2.ensures)
    (c.len.ensures ∙ log.names.ok.0 ∙ sym (length-map log.names.items name_text)) (c.len-2.ensures ∙ log.indexes.ok.0)
