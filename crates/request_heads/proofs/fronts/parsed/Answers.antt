use Rattle.request_heads.proofs.Limits.{overfull_is_hopeless}
use Rattle.request_heads.proofs.fronts.parsed.Goals as goal

pub returns-in-Err-clause-some : goal.returns-in-Err-clause-some
returns-in-Err-clause-some c more = overfull_is_hopeless c.args.window.now more c.in-Err.ensures.err.no_room c.in-Err.ensures.err.too_many
