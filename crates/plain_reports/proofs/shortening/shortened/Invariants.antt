use Rattle.std.proofs.Common.{◌≤◌, ◌*◌, string_len}
use Rattle.plain_reports.proofs.shortening.shortened.Given as goal

abbrev pub invariant-loop-character : goal.invariant-loop-character
invariant-loop-character l = (string_len l.short ≤ 4 * l.count) × (l.count ≤ 60)
