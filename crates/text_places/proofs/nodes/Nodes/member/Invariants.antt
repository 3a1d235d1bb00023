use Rattle.std.proofs.Common.{◌-◌}
use Rattle.text_places.proofs.nodes.Nodes.member.Given as goal

abbrev pub decreases-loop-at : goal.decreases-loop-at
decreases-loop-at l = l.past - l.at
