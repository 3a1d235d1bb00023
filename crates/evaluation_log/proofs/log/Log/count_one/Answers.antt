use Rattle.std.proofs.Common.{sym, append-nil, arith}
use Rattle.std.proofs.Math.Bool.{or-false}
use Rattle.evaluation_log.specs.Notes.{notes_of_both}
use Rattle.evaluation_log.specs.Logs.{log_view}
use Rattle.evaluation_log.proofs.LogLaws.{same_notes, same_tallies}
use Rattle.evaluation_log.proofs.log.Log.count_one.Goals as goal

pub returns : goal.returns
unfolding log_view notes_of_both
returns c =
    same_notes (sym (append-nil _)) (sym (append-nil _)) (sym (append-nil _)) (sym (append-nil _)) (same_tallies (omega arith) (sym (or-false _)) (sym (or-false _)))
