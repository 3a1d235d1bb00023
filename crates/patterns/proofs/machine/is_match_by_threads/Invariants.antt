use Rattle.std.proofs.Common.{◌≡◌, ◌-◌, ◌≤◌, true, length, vec_len}
use Rattle.regex.specs.Patterns.{Re}
use Rattle.regex.specs.Search.{leftmost_in}
use Rattle.regex_compile.specs.Implements.{Implements}
use Rattle.patterns.proofs.machine.is_match_by_threads.Given as goal

abbrev pub invariant-loop-from : goal.invariant-loop-from
invariant-loop-from l =
    (l.at ≤ length l.hay) × (l.threads.states ≡ vec_len l.nfa.states)
    × ((re : Re) → Implements l.nfa re → leftmost_in true re l.hay 0 ≡ leftmost_in true re l.hay l.at)

abbrev pub decreases-loop-from : goal.decreases-loop-from
decreases-loop-from l = length l.hay - l.at
