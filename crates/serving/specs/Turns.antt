-- What becomes of one piece.
use Rattle.std.specs.Prelude.{◌≡◌, ◌⊎◌, ◌+◌, ℕ, List, [], ◌++◌, Option, Some, None, Result, Ok, Err, length}
use Rattle.definitions.specs.Values.{Text}
use Rattle.http_definitions.specs.Connections.{Answers, Connection, holding, closed, Takes}
use Rattle.connections.specs.Progress.{TakesSome}
use Rattle.faults.specs.declared.Fault.TheVariants.{NoRoom, WriteFailed}
use Rattle.serving.specs.Transfers.{Transfer}
use Rattle.serving.specs.Writing.{Writes, WritesSome}
use Rattle.serving.specs.Exchanges.{Wire, Tells, HasEnded, FailsSo}
use Rattle.serving.specs.declared.failure.Failure.{Failure}
use Rattle.serving.specs.declared.failure.Failure.TheVariants as failure
use Rattle.serving.specs.declared.pieces.Progress.{Progress}
use Rattle.serving.specs.declared.pieces.Progress.TheVariants.{Goes, Ends}

-- the bytes are taken, and what they give is written
abbrev pub AnswersBytes : {S : Type 0} → Answers S → Text → S → List Transfer → Result (Unit {0}) Failure → Option Connection → S → List Transfer → Type 0
AnswersBytes answers bytes s before (Ok u) c t after =
    (now : Connection) × (out : Text) × (c ≡ Some now) × Takes answers bytes s out now t × Writes before out after
AnswersBytes answers bytes s before (Err (failure.Fault f)) c t after =
    ((f ≡ WriteFailed) × (now : Connection) × (out : Text) × Takes answers bytes s out now t × WritesSome before out after)
    ⊎ ((f ≡ NoRoom) × TakesSome answers bytes s t × (after ≡ before))
AnswersBytes answers bytes s before (Err (failure.Unsettled why)) c t after = TakesSome answers bytes s t × (after ≡ before)

-- a piece goes behind what the connection holds
abbrev pub IsPieceAnswered : {S : Type 0} → Answers S → Option Connection → Text → S → List Transfer → Result (Unit {0}) Failure → Option Connection → S → List Transfer → Type 0
IsPieceAnswered answers (Some (holding held)) piece s before result c t after =
    AnswersBytes answers (held ++ piece) s before result c t after
IsPieceAnswered answers (Some closed) piece s before result c t after = Unit {0}
IsPieceAnswered answers None piece s before result c t after = Unit {0}

-- behind so many pieces
abbrev pub Turns : {S : Type 0} → Answers S → Wire S → ℕ → Result Progress Failure → Option Connection → Wire S → Type 0
Turns answers start n (Ok Goes) c after =
    (held : Text) × (c ≡ Some (holding held)) × (x : Tells answers start [] (holding held) after) × (length x.0.pieces ≡ n + 1)
Turns answers start n (Ok Ends) c after =
    (now : Connection) × (last : List Transfer) × (c ≡ Some now) × HasEnded last now × Tells answers start last now after
Turns answers start n (Err e) c after = FailsSo answers start e after

-- whatever was read and told since the start
abbrev pub IsTurn : {S : Type 0} → Answers S → Option Connection → Wire S → Result Progress Failure → Option Connection → Wire S → Type 0
IsTurn {S} answers c before result d after =
    (start : Wire S) (held : Text) → c ≡ Some (holding held) → (x : Tells answers start [] (holding held) before)
    → Turns answers start (length x.0.pieces) result d after
