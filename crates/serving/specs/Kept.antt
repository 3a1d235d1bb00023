-- What an opening may find once a connection was served.
use Rattle.std.specs.Prelude.{◌≡◌, ◌⊎◌, Result, Ok, Err}
use Rattle.http_definitions.specs.Connections.{Answers}
use Rattle.serving.specs.Exchanges.{Wire, LeavesUntold}
use Rattle.serving.specs.declared.failure.Failure.{Failure}
use Rattle.serving.specs.declared.failure.Failure.TheVariants.{Fault, Unsettled}

-- behind a failure it is the state now; where settling failed, it may be the one before a piece
abbrev pub IsLeftBehind : {S : Type 0} → S → Failure → S → S → Type 0
IsLeftBehind before (Fault f) now s = s ≡ now
IsLeftBehind before (Unsettled why) now s = (s ≡ before) ⊎ (s ≡ now)

abbrev pub IsFoundBehind : {S A : Type 0} → S → Result A Failure → S → S → Type 0
IsFoundBehind before (Ok x) now s = s ≡ now
IsFoundBehind before (Err e) now s = IsLeftBehind before e now s

-- a failure leaves the state at the end; where settling failed, it may be the one before the last piece, of which nothing is
-- told
abbrev pub IsLeft : {S : Type 0} → Answers S → Wire S → Failure → Wire S → S → Type 0
IsLeft answers before (Fault f) after s = s ≡ after.handler
IsLeft answers before (Unsettled why) after s =
    (s ≡ after.handler) ⊎ ((x : LeavesUntold answers before after) × (s ≡ x.middle.handler))

-- what an opening may find at the end
abbrev pub IsFound : {S A : Type 0} → Answers S → Wire S → Result A Failure → Wire S → S → Type 0
IsFound answers before (Ok x) after s = s ≡ after.handler
IsFound answers before (Err e) after s = IsLeft answers before e after s
