-- Texts of one line.
use Rattle.std.specs.Prelude.{Bool, ◌==◌, not}
use Rattle.std.specs.List.{list_all}
use Rattle.definitions.specs.Values.{Text}

-- the text holds no line feed
abbrev pub is_one_line : Text → Bool
is_one_line = list_all (λ c. not (c == 10))
