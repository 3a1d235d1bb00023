use Rattle.std.proofs.Common.{◌+◌, ◌-◌, length}
use Rattle.basic_output.proofs.name_lists.NameListCache.keep.Given as goal

abbrev pub decreases-loop-self : goal.decreases-loop-self
decreases-loop-self l = l.place + 1 - length l.self.texts.items
