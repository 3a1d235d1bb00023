use Rattle.std.proofs.Common.{◌∙◌, ap, sym, map, append-nil}
use Rattle.std.proofs.lemmas.List.{take-map}
use Rattle.json_doc.specs.NamedMembers.{name_text}
use Rattle.evaluation_log.specs.Notes.{Lengths, notes_of_both}
use Rattle.evaluation_log.specs.Logs.{log_view}
use Rattle.evaluation_log.proofs.LogLaws.{same_notes, cut_list, errors_of, annotations_of, names_of, indexes_of, tally_of}
use Rattle.evaluation_log.proofs.log.Log.cut_evaluated.Goals as goal

pub returns : goal.returns
unfolding log_view notes_of_both
returns c older more m e =
    same_notes (errors_of _ older more e) (annotations_of _ older more e)
    (ap (map name_text) c.truncate.ensures.items ∙ sym (take-map name_text c.args.mark.now.names c.args.self.now.names.items)
    ∙ cut_list c.args.mark.now.names older.names more.names _ (ap (λ (l : Lengths). l.names) m) (names_of _ older more e) ∙ sym (append-nil _))
    (c.truncate-2.ensures.items ∙ cut_list c.args.mark.now.indexes older.indexes more.indexes _ (ap (λ (l : Lengths). l.indexes) m) (indexes_of _ older more e) ∙ sym (append-nil _)) (tally_of _ older more e)
