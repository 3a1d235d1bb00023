use Rattle.std.proofs.Common.{◌+◌}
use Rattle.request_heads.proofs.Limits.{past_window}
use Rattle.request_heads.proofs.Windows.{ends_window, fronts_whole}
use Rattle.request_heads.proofs.fronts.head_at.Goals as goal

pub parsed-requires-clause-ends : goal.parsed-requires-clause-ends
parsed-requires-clause-ends c = ends_window c.args.bytes.now c.args.at c.requires.within c.requires.past

pub returns-clause-none : goal.returns-clause-none
returns-clause-none c e = past_window c.args.bytes.now (c.args.at + 1) (c.parsed.ensures.none e)

pub returns-clause-some : goal.returns-clause-some
returns-clause-some c = fronts_whole c.args.bytes.now (c.args.at + 1) c.parsed.result c.parsed.ensures.some
