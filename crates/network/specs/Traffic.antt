-- What was moved, and on which connection.
use Rattle.std.specs.Prelude.{ℕ, List, [], ◌∷◌, ◌++◌, ◌==◌, Option, Some, None, Result, Ok, Err, take, if◌then◌else◌}
use Rattle.definitions.specs.Values.{Text}

-- bytes of the connection with this number
abbrev pub Moved : Type 0
Moved = ℕ × Text

-- what a call moved of these bytes
abbrev pub moved_of : {E : Type 0} → ℕ → Result (Option ℕ) E → Text → List Moved
moved_of id (Ok (Some n)) bytes = (id, take n bytes) ∷ []
moved_of id (Ok None) bytes = []
moved_of id (Err e) bytes = []

-- all bytes of one connection, in order
abbrev pub bytes_of : ℕ → List Moved → Text
bytes_of k [] = []
bytes_of k (m ∷ ms) = if k == m.0 then m.1 ++ bytes_of k ms else bytes_of k ms
