-- What is shown of a text at a terminal: nothing that it would obey, and nothing that stands elsewhere than it is written.
use Rattle.std.specs.Prelude.{ℕ, Bool, ◌||◌, flat_map, if◌then◌else◌}
use Rattle.std.specs.Char.{encode_utf8, is_control}
use Rattle.std.specs.Int.{is_in_range}
use Rattle.std.specs.Str.{chars}
use Rattle.definitions.specs.Values.{Text}

-- a control character, or one that turns the direction in which text is written (U+202A to U+202E, U+2066 to U+2069)
abbrev pub is_obeyed : ℕ → Bool
is_obeyed c = is_control c || is_in_range 0x202A 0x202E c || is_in_range 0x2066 0x2069 c

-- U+FFFD in its place
abbrev pub shown_character : ℕ → ℕ
shown_character c = if is_obeyed c then 0xFFFD else c

abbrev pub shown_text : Text → Text
shown_text t = flat_map (λ c. encode_utf8 (shown_character c)) (chars t)
