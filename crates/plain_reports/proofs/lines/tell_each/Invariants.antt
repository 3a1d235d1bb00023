use Rattle.std.proofs.Common.{◌≡◌, List, length, string_bytes}
use Rattle.std.specs.List.{All, concat}
use Rattle.definitions.specs.Values.{Text}
use Rattle.plain_reports.specs.Told.{EndsLine}
use Rattle.plain_reports.proofs.lines.tell_each.Given as goal

abbrev pub invariant-loop-cause : goal.invariant-loop-cause
invariant-loop-cause g l = (parts : List Text) × (length parts ≡ l.cause-index) × All EndsLine parts × (string_bytes l.lines ≡ concat parts)
