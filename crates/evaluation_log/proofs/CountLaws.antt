-- Laws of how many applications there were.
use Rattle.std.proofs.Common.{◌<◌, ◌≤◌, arith}
use Rattle.definitions.specs.Applied.{Outcome}
use Rattle.evaluation_log.specs.Logs.{log_view}
use Rattle.evaluation_log.specs.Notes.{IsOver, outcome_notes}
use Rattle.evaluation_log.specs.declared.log.Log.{Log}

-- where there were as many as there may be, one more is over that
pub full_over : (l : Log) (o : Outcome) → 100000 ≤ l.count → 0 < o.count → IsOver (log_view l) (outcome_notes o)
unfolding log_view
full_over l o full some = omega (arith, full, some)
