-- Lines of which each is an instance.
use Rattle.std.specs.Prelude.{◌==◌, ◌||◌, ℕ, Bool}

-- a space, a tab, a line feed or a carriage return
abbrev pub is_space : ℕ → Bool
is_space b = b == 32 || b == 9 || b == 10 || b == 13
