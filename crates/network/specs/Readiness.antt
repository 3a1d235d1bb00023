-- That no connection is forgotten.
use Rattle.std.specs.Prelude.{◌≡◌, ◌≢◌, ◌⊎◌, ℕ, List, [], ◌∷◌, Bool, true, false, Option, Some}
use Rattle.definitions.specs.Values.{Text}

abbrev pub has_bytes : Text → Bool
has_bytes [] = false
has_bytes (b ∷ bytes) = true

abbrev pub IsAmong : ℕ → List ℕ → Type 0
IsAmong k [] = ⊥
IsAmong k (id ∷ ids) = (k ≡ id) ⊎ IsAmong k ids

-- each open connection is due, once it can be written where it has bytes to be sent and else once it
-- can be read, or is among these
abbrev pub AllDue : (ℕ → Option Text) → (Bool → ℕ → Type 0) → List ℕ → Type 0
AllDue unsent due ids =
    (k : ℕ) (bytes : Text) → unsent k ≡ Some bytes → due (has_bytes bytes) k ⊎ IsAmong k ids

-- every other connection that was due is due
abbrev pub OthersDue : ℕ → (Bool → ℕ → Type 0) → (Bool → ℕ → Type 0) → Type 0
OthersDue id before after = (k : ℕ) (d : Bool) → k ≢ id → before d k → after d k
