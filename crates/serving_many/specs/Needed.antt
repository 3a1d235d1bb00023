-- Which connections stand open.
use Rattle.std.specs.Prelude.{◌≡◌, ℕ, [], ◌∷◌, false, Option, Some, None}
use Rattle.definitions.specs.Values.{Text}
use Rattle.http_definitions.specs.Connections.{Connection}
use Rattle.connections.specs.Connected.{is_closed_at}

-- one with nothing to be sent isn't at its end, and one that isn't open has no session
abbrev pub IsNeeded : Option Connection → Option Text → Type 0
IsNeeded c None = c ≡ None
IsNeeded c (Some []) = is_closed_at c ≡ false
IsNeeded c (Some (b ∷ bytes)) = Unit {0}

abbrev pub AllNeeded : (ℕ → Option Connection) → (ℕ → Option Text) → Type 0
AllNeeded connection unsent = (k : ℕ) → IsNeeded (connection k) (unsent k)
