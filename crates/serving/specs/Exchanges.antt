-- What was read and written while a connection is served.
use Rattle.std.specs.Prelude.{◌≡◌, ◌⊎◌, List, [], ◌∷◌, ◌++◌, Bool, true, false, Some, None, map}
use Rattle.std.specs.List.{concat, list_all}
use Rattle.definitions.specs.Values.{Text}
use Rattle.http_definitions.specs.Connections.{Answers, Connection, holding, closed, Takes, last_words}
use Rattle.connections.specs.Progress.{TakesSome}
use Rattle.faults.specs.declared.Fault.{Fault}
use Rattle.faults.specs.declared.Fault.TheVariants.{NoRoom, ReadFailed, WriteFailed}
use Rattle.serving.specs.Transfers.{Transfer}
use Rattle.serving.specs.declared.failure.Failure.{Failure}
use Rattle.serving.specs.declared.failure.Failure.TheVariants as failure
use Rattle.serving.specs.Writing.{Writes, WritesSome}

-- what answers, and what was read and written up to a time
pub record Wire (S : Type 0) : Type 0 where
  pub handler : S
  pub reads : List Transfer
  pub writes : List Transfer

abbrev pub wire : {S : Type 0} → S → List Transfer → List Transfer → Wire S
wire s reads writes = record { handler = s; reads = reads; writes = writes }

abbrev pub has_bytes : Text → Bool
has_bytes [] = false
has_bytes (b ∷ bytes) = true

-- The stream of a new connection was read in these pieces, and then by the last reads. The pieces
-- together are taken.
pub record Reads {S : Type 0} (answers : Answers S) (before : Wire S) (last : List Transfer) (now : Connection) (after : Wire S) : Type 0 where
  pub pieces : List Text
  pub have_bytes : list_all has_bytes pieces ≡ true
  pub on : after.reads ≡ before.reads ++ (map (λ p. Some p) pieces ++ last)
  pub out : Text
  pub takes : Takes answers (concat pieces) before.handler out now after.handler

-- .. and what they give is written
abbrev pub Tells : {S : Type 0} → Answers S → Wire S → List Transfer → Connection → Wire S → Type 0
Tells answers before last now after = (x : Reads answers before last now after) × Writes before.writes x.out after.writes

-- .. with what is told at the end of the stream
abbrev pub TellsAll : {S : Type 0} → Answers S → Wire S → List Transfer → Connection → Wire S → Type 0
TellsAll answers before last now after =
    (x : Reads answers before last now after) × Writes before.writes (x.out ++ last_words now) after.writes

-- .. or a first part of it, up to a broken write
abbrev pub TellsSome : {S : Type 0} → Answers S → Wire S → List Transfer → Connection → Wire S → Type 0
TellsSome answers before last now after =
    (x : Reads answers before last now after) × WritesSome before.writes (x.out ++ last_words now) after.writes

-- All is told up to the last piece. Of what that one completes a first part is answered, and
-- nothing of it is told.
pub record LeavesUntold {S : Type 0} (answers : Answers S) (before after : Wire S) : Type 0 where
  pub middle : Wire S
  pub held : Text
  pub told : Tells answers before [] (holding held) middle
  pub piece : Text
  pub on : after.reads ≡ middle.reads ++ (Some piece ∷ [])
  pub some : TakesSome answers (held ++ piece) middle.handler after.handler
  pub untold : after.writes ≡ middle.writes

-- the reader came to its end, or the connection is closed
abbrev pub HasEnded : List Transfer → Connection → Type 0
HasEnded last now = (last ≡ Some [] ∷ []) ⊎ ((last ≡ []) × (now ≡ closed))

-- what is read last where memory or a writer fails: no more, or the end of the bytes
abbrev pub IsLast : List Transfer → Type 0
IsLast last = (last ≡ []) ⊎ (last ≡ Some [] ∷ [])

-- what each fault leaves
abbrev pub BreaksOff : {S : Type 0} → Answers S → Wire S → Fault → Wire S → Type 0
BreaksOff answers before f after =
    ((f ≡ ReadFailed) × (now : Connection) × Tells answers before (None ∷ []) now after)
    ⊎ (((f ≡ WriteFailed) × (now : Connection) × (last : List Transfer) × IsLast last × TellsSome answers before last now after)
    ⊎ ((f ≡ NoRoom)
    × (((now : Connection) × (last : List Transfer) × IsLast last × Tells answers before last now after) ⊎ LeavesUntold answers before after)))

-- .. and each failure
abbrev pub FailsSo : {S : Type 0} → Answers S → Wire S → Failure → Wire S → Type 0
FailsSo answers before (failure.Fault f) after = BreaksOff answers before f after
FailsSo answers before (failure.Unsettled why) after = LeavesUntold answers before after
