use Rattle.std.proofs.Common.{◌≡◌, ◌++◌, string_bytes}
use Rattle.std.specs.Char.{encode_utf8}
use Rattle.std.specs.List.{flat_map}
use Rattle.plain_reports.specs.Shown.{shown_character}
use Rattle.plain_reports.proofs.shown.push_shown.Given as goal

abbrev pub invariant-loop-character : goal.invariant-loop-character
invariant-loop-character l = string_bytes l.out ≡ string_bytes l.initial.out ++ flat_map (λ c. encode_utf8 (shown_character c)) l.yielded
