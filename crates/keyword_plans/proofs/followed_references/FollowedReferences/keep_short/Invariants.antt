use Rattle.std.proofs.Common.{◌≡◌, ◌-◌, ◌+◌}
use Rattle.std.specs.Vec.{vec_len}
use Rattle.keyword_plans.proofs.followed_references.FollowedReferences.keep_short.Given as goal

abbrev pub invariant-loop-self : goal.invariant-loop-self
invariant-loop-self l = record { linked : l.self.linked ≡ l.fn.self.linked }

abbrev pub decreases-loop-self : goal.decreases-loop-self
decreases-loop-self l = (l.place + 1) - vec_len l.self.short
