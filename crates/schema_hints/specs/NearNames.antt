-- How many edits lead from one name to another: an edit puts in, takes away or changes one character, or exchanges two that
-- follow each other.
use Rattle.std.specs.Prelude.{ℕ, length}
use Rattle.std.specs.Str.{chars}
use Rattle.strsim.specs.Edits.{osa_table}
use Rattle.definitions.specs.Values.{Text}

abbrev pub edits_between : Text → Text → ℕ
edits_between name known = (osa_table (chars name) (chars known)).last_row (length (chars known))
