-- What a connection from its start to its end comes to.
use Rattle.std.specs.Prelude.{◌≡◌, ◌⊎◌, ◌≤◌, ℕ, List, [], ◌∷◌, ◌++◌, All, Option, Some, None, Result, Ok, Err, length}
use Rattle.http_definitions.specs.Connections.{Answers, Connection}
use Rattle.faults.specs.declared.Fault.{Fault}
use Rattle.faults.specs.declared.Fault.TheVariants.{IdInUse, ReadBound}
use Rattle.serving.specs.Transfers.{Transfer, transfer_size}
use Rattle.serving.specs.declared.failure.Failure.{Failure}
use Rattle.serving.specs.declared.failure.Failure.TheVariants as failure
use Rattle.serving.specs.Exchanges.{Wire, Tells, TellsAll, HasEnded, FailsSo}

-- how often a connection is read at most
abbrev pub most_reads : ℕ
most_reads = 65536

-- how many bytes a read is given room for
abbrev pub most_piece : ℕ
most_piece = 4096

-- so often at most a connection was read, and so many bytes at most each time
pub record IsBounded (before after : List Transfer) : Type 0 where
  pub reads : List Transfer
  pub on : after ≡ before ++ reads
  pub count : length reads ≤ most_reads
  pub sizes : All (λ t. transfer_size t ≤ most_piece) reads

-- one read, of so many bytes at most
abbrev pub ReadsOnce : ℕ → List Transfer → List Transfer → Type 0
ReadsOnce room before after = (t : Transfer) × (after ≡ before ++ t ∷ []) × (transfer_size t ≤ room)

-- a fault is a failure
abbrev pub as_failure : Result (Unit {0}) Fault → Result (Unit {0}) Failure
as_failure (Ok u) = Ok u
as_failure (Err f) = Err (failure.Fault f)

-- so many reads came to no end
abbrev pub ReachesBound : {S : Type 0} → Answers S → Wire S → Wire S → Type 0
ReachesBound answers before after =
    (now : Connection) × (x : Tells answers before [] now after) × (length x.0.pieces ≡ most_reads)

abbrev pub IsCutOff : {S : Type 0} → Answers S → Wire S → Failure → Wire S → Type 0
IsCutOff answers before e after = FailsSo answers before e after ⊎ ((e ≡ failure.Fault ReadBound) × ReachesBound answers before after)

-- all but what is told at the end of the stream
abbrev pub IsExchanged : {S : Type 0} → Answers S → Wire S → Result (Unit {0}) Failure → Option Connection → Wire S → Type 0
IsExchanged answers before (Ok u) c after =
    (now : Connection) × (last : List Transfer) × (c ≡ Some now) × HasEnded last now × Tells answers before last now after
IsExchanged answers before (Err e) c after = IsCutOff answers before e after

-- a connection with an id that isn't in use is served
abbrev pub IsServed : {S : Type 0} → Answers S → Option Connection → Wire S → Result (Unit {0}) Failure → Wire S → Type 0
IsServed answers (Some c) before result after = (result ≡ Err (failure.Fault IdInUse)) × (after ≡ before)
IsServed answers None before (Ok u) after =
    (now : Connection) × (last : List Transfer) × HasEnded last now × TellsAll answers before last now after
IsServed answers None before (Err e) after = IsCutOff answers before e after
