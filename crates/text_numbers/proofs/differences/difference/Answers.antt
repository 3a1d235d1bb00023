use Rattle.std.proofs.Common.{map, arith}
use Rattle.text_numbers.proofs.Sameness.{same_at_end}
use Rattle.text_numbers.proofs.differences.difference.Goals as goal

pub returns-in-Some-clause-parts : goal.returns-in-Some-clause-parts
returns-in-Some-clause-parts c =
    record { below = c.in-Some.ensures.below; rest = c.in-Some.ensures.rest; alike = c.loop-position.invariant }

pub returns-clause-same : goal.returns-clause-same
returns-clause-same c =
    same_at_end (map (λ t. t.now) c.args.texts.now) c.args.numbers.now c.loop-position.position c.first_end-position-end.result
    c.loop-position.invariant (omega arith) c.first_end-position-end.ensures c.loop-position-test.false
