use Rattle.evaluation_log.specs.Logs.{log_view}
use Rattle.evaluation_log.proofs.LogLaws.{looped_after}
use Rattle.evaluation_log.proofs.log.Log.count_loop.Goals as goal

pub returns : goal.returns
unfolding log_view
returns c = looped_after (log_view c.args.self.now) (log_view c.count_one.new.self) c.count_one.ensures
