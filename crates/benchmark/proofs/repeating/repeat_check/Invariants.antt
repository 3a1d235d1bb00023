use Rattle.std.proofs.Common.{◌≡◌, ◌≤◌}
use Rattle.checks.specs.Judgements.{input_of, judgement_of}
use Rattle.benchmark.specs.Counts.{valid_count}
use Rattle.benchmark.proofs.repeating.repeat_check.Given as goal

abbrev pub invariant-loop : goal.invariant-loop
invariant-loop l = (l.valid ≤ l.counter) × (l.valid ≡ valid_count (judgement_of (input_of l.fn.text)) l.counter)
