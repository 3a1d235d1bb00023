-- Patterns that the grammar reads, and where they match.
use Rattle.std.proofs.Common.{◌≡◌, refl}
use Rattle.std.specs.Prelude.{codes, true, false}
use Rattle.std.specs.Str.{chars}
use Rattle.regex_hir.specs.Find.{find_str, first_from}
use Rattle.regex_hir.specs.Text.{is_boundary, has_bytes_at}
use Rattle.regex_hir.specs.Re.{attempt, rounds}
use Rattle.regex.proofs.OnLiterals.{regex_on_literals}
use Rattle.definitions.specs.Patterns.{is_read, has_match}

found_inside : has_match (codes "a+") (codes "xaay") ≡ true
unfolding regex_on_literals chars find_str first_from is_boundary has_bytes_at attempt rounds
found_inside = refl

not_found : has_match (codes "a+") (codes "xy") ≡ false
unfolding regex_on_literals chars find_str first_from is_boundary has_bytes_at attempt rounds
not_found = refl

look_ahead : is_read (codes "(?=a)") ≡ false
unfolding regex_on_literals chars
look_ahead = refl
