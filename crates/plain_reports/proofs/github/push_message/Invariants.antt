use Rattle.std.proofs.Common.{◌≡◌, ◌++◌, string_bytes}
use Rattle.std.specs.List.{flat_map}
use Rattle.plain_reports.specs.Escapes.{message_escape}
use Rattle.plain_reports.proofs.github.push_message.Given as goal

abbrev pub invariant-loop-character : goal.invariant-loop-character
invariant-loop-character l = string_bytes l.out ≡ string_bytes l.initial.out ++ flat_map message_escape l.yielded
