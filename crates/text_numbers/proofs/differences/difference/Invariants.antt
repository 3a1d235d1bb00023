use Rattle.std.proofs.Common.{map}
use Rattle.text_numbers.specs.Places.{AreAlike}
use Rattle.text_numbers.proofs.differences.difference.Given as goal

abbrev pub invariant-loop-position : goal.invariant-loop-position
invariant-loop-position l = AreAlike (map (λ t. t.now) l.texts) l.numbers l.position
