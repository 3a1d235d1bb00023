use Rattle.std.proofs.Common.{map, take, All}
use Rattle.regex_hir.specs.Meaning.{meaning}
use Rattle.regex.specs.Writes.{HasTextParts}
use Rattle.patterns.proofs.whole_characters.+matches_text.Given as goal

abbrev pub invariant-all_match_text-loop-i : goal.invariant-all_match_text-loop-i
invariant-all_match_text-loop-i l =
    All HasTextParts (map meaning (take l.i l.subs))
