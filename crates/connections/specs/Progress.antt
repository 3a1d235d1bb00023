-- What is done with the requests at the front of a connection's bytes.
use Rattle.std.specs.Prelude.{◌≡◌, ◌⊎◌, ◌<◌, ◌≤◌, [], ◌++◌, length, take, drop}
use Rattle.definitions.specs.Values.{Text}
use Rattle.definitions.specs.Registries.{Reply}
use Rattle.http_definitions.specs.ReplyTexts.{reply_text}
use Rattle.http_definitions.specs.Streams.{Message}
use Rattle.http_definitions.specs.Connections.{Answers, Connection, holding, closed, Takes}
use Rattle.http_laws.specs.Taking.{AnswersOne}
use Rattle.request_heads.specs.declared.headings.Heading.{Heading}
use Rattle.connections.specs.Messages.{IsMessage}
use Rattle.connections.specs.Phases.{IsHeld}
use Rattle.connections.specs.declared.turns.Turn.{Turn}
use Rattle.connections.specs.declared.turns.Turn.TheVariants.{Took, Holds, Closes}
use Rattle.connections.specs.declared.taking.Ended.{Ended}
use Rattle.connections.specs.declared.taking.Ended.TheVariants as ended

-- a first part of the bytes is taken, and nothing is said of what was to be told
pub record TakesSome {S : Type 0} (answers : Answers S) (bytes : Text) (s t : S) : Type 0 where
  pub front : Text
  pub more : Text
  pub whole : bytes ≡ front ++ more
  pub out : Text
  pub now : Connection
  pub takes : Takes answers front s out now t

-- the bytes are taken, and what is told goes behind a text
pub record Tells {S : Type 0} (answers : Answers S) (bytes : Text) (s : S) (before : Text) (now : Connection) (t : S) (after : Text) : Type 0 where
  pub out : Text
  pub appended : after ≡ before ++ out
  pub takes : Takes answers bytes s out now t

-- the message at the front is answered
abbrev pub AnswersAt : {S : Type 0} → Answers S → Text → Heading → S → Reply → S → Type 0
AnswersAt answers bytes x s r t = (m : Message) → IsMessage bytes x m → AnswersOne answers m s r t

-- .. and its reply goes behind a text
pub record Replies {S : Type 0} (answers : Answers S) (bytes : Text) (x : Heading) (s : S) (before : Text) (t : S) (after : Text) : Type 0 where
  pub reply : Reply
  pub answered : AnswersAt answers bytes x s reply t
  pub appended : after ≡ before ++ reply_text x.is_last reply

-- the message at the front is answered, or nothing was done
abbrev pub MayAnswer : {S : Type 0} → Answers S → Text → Heading → S → S → Type 0
MayAnswer answers bytes x s t = (t ≡ s) ⊎ ((r : Reply) × AnswersAt answers bytes x s r t)

-- one turn: a request is answered, or the rest is held, or the connection is closed
abbrev pub IsTurn : {S : Type 0} → Answers S → Text → S → Text → Turn → S → Text → Type 0
IsTurn answers bytes s before (Took n) t after =
    (0 < n) × (n ≤ length bytes) × Tells answers (take n bytes) s before (holding []) t after
IsTurn answers bytes s before (Holds n p) t after =
    (n ≤ length bytes) × IsHeld (drop n bytes) p × Tells answers bytes s before (holding (drop n bytes)) t after
IsTurn answers bytes s before Closes t after = Tells answers bytes s before closed t after

-- all bytes are taken
abbrev pub IsEnd : {S : Type 0} → Answers S → Text → S → Text → Ended → S → Text → Type 0
IsEnd answers bytes s before (ended.Holds n p) t after =
    (n ≤ length bytes) × IsHeld (drop n bytes) p × Tells answers bytes s before (holding (drop n bytes)) t after
IsEnd answers bytes s before ended.Closes t after = Tells answers bytes s before closed t after
