use Rattle.evaluation_log.specs.Logs.{log_view}
use Rattle.evaluation_log.proofs.LogLaws.{deep_after}
use Rattle.evaluation_log.proofs.log.Log.count_too_deep.Goals as goal

pub returns : goal.returns
unfolding log_view
returns c = deep_after (log_view c.args.self.now) (log_view c.count_one.new.self) c.count_one.ensures
