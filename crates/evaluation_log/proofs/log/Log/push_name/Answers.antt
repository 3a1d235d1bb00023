use Rattle.std.proofs.Common.{sym, ap, map, ◌∷◌, [], ◌∙◌, append-nil}
use Rattle.std.proofs.lemmas.List.{map-append}
use Rattle.json_doc.specs.NamedMembers.{name_text}
use Rattle.evaluation_log.specs.Notes.{notes_of_both}
use Rattle.evaluation_log.specs.Logs.{log_view}
use Rattle.evaluation_log.proofs.LogLaws.{same_notes, tallied_nothing}
use Rattle.evaluation_log.proofs.log.Log.push_name.Goals as goal

pub returns : goal.returns
unfolding log_view notes_of_both
returns c =
    same_notes (sym (append-nil _)) (sym (append-nil _))
    (ap (map name_text) c.in_ok-push.ensures.items ∙ map-append name_text c.args.self.now.names.items (c.args.name ∷ [])) (sym (append-nil _)) (sym (tallied_nothing _))
