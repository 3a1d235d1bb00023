use Rattle.std.proofs.Common.{sym}
use Rattle.locations.proofs.SameTokens.{same_pointer-lengths}
use Rattle.locations.proofs.sameness.same_steps.Goals as goal

pub returns-then-first-second : goal.returns-then-first-second
returns-then-first-second c = sym (same_pointer-lengths c.args.first.now c.args.second.now c.if-first-second.true)
