-- What the laws say of the one answer of a stream.
use Rattle.std.specs.Prelude.{◌≡◌, ◌⊎◌, ◌++◌}
use Rattle.definitions.specs.Values.{Text}
use Rattle.definitions.specs.Registries.{Request, Reply}
use Rattle.http_definitions.specs.ReplyTexts.{closing_text}
use Rattle.http_definitions.specs.Connections.{Answers, Connection, holding, closed, Takes, last_words}

-- from one state a request with one key has one reply, and leaves one state
abbrev pub AnswerOnce : {S : Type 0} → Answers S → Type 0
AnswerOnce {S} answers =
    (key : Text) (q : Request) (s : S) (r p : Reply) (t u : S)
    → answers s key q r t → answers s key q p u → (r ≡ p) × (t ≡ u)

-- one is closed already while the other still waits
abbrev pub ClosesEarlier : Text → Connection → Text → Connection → Type 0
ClosesEarlier out now later_out later =
    (rest : Text) × (later ≡ holding rest) × (now ≡ closed) × (out ≡ later_out ++ closing_text)

abbrev pub IsSameSoFar : Text → Connection → Text → Connection → Type 0
IsSameSoFar out now other_out other =
    ((out ≡ other_out) × (now ≡ other))
    ⊎ (ClosesEarlier out now other_out other ⊎ ClosesEarlier other_out other out now)

abbrev pub StreamsAreAnsweredOnce : {S : Type 0} → Answers S → Type 0
StreamsAreAnsweredOnce {S} answers =
    AnswerOnce answers
    → (bytes : Text) (s t u : S) (out other_out : Text) (now other : Connection)
    → Takes answers bytes s out now t → Takes answers bytes s other_out other u
    → (t ≡ u) × IsSameSoFar out now other_out other

abbrev pub EndedStreamsAreAnsweredOnce : {S : Type 0} → Answers S → Type 0
EndedStreamsAreAnsweredOnce {S} answers =
    AnswerOnce answers
    → (bytes : Text) (s t u : S) (out other_out : Text) (now other : Connection)
    → Takes answers bytes s out now t → Takes answers bytes s other_out other u
    → out ++ last_words now ≡ other_out ++ last_words other
