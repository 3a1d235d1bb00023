use Rattle.std.proofs.Common.{length}
use Rattle.text_places.proofs.unreadable.token_fault.Given as goal

abbrev pub decreases-loop-token : goal.decreases-loop-token
decreases-loop-token l = length l.reader
