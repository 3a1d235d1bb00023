use Rattle.std.proofs.Common.{sym, append-nil}
use Rattle.evaluation_log.specs.Notes.{notes_of_both}
use Rattle.evaluation_log.specs.Logs.{log_view}
use Rattle.evaluation_log.proofs.LogLaws.{same_notes, tallied_nothing}
use Rattle.evaluation_log.proofs.log.Log.push_index.Goals as goal

pub returns : goal.returns
unfolding log_view notes_of_both
returns c = same_notes (sym (append-nil _)) (sym (append-nil _)) (sym (append-nil _)) c.in_ok-push.ensures.items (sym (tallied_nothing _))
