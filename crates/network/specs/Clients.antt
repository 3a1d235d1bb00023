-- The clients of connections.
use Rattle.std.specs.Prelude.{◌≡◌, ◌≢◌, ℕ, Bool, true, false, Result, Ok, Err}
use Rattle.network.specs.declared.clients.Client.{Client}
use Rattle.network.specs.declared.clients.Client.TheVariants.{Absent, Present, Failed}

abbrev pub is_absent : Client → Bool
is_absent Absent = true
is_absent Present = false
is_absent Failed = false

-- one that fails
abbrev pub failed : Client → Client
failed Absent = Absent
failed Present = Failed
failed Failed = Failed

-- behind a call that moves bytes, or fails
abbrev pub client_behind : {A E : Type 0} → Result A E → Client → Client
client_behind (Ok a) c = c
client_behind (Err e) c = failed c

-- every other client is as it was
abbrev pub OthersAreSame : ℕ → (ℕ → Client) → (ℕ → Client) → Type 0
OthersAreSame id before after = (k : ℕ) → k ≢ id → after k ≡ before k

-- .. and all are
abbrev pub AllAreSame : (ℕ → Client) → (ℕ → Client) → Type 0
AllAreSame before after = (k : ℕ) → after k ≡ before k
