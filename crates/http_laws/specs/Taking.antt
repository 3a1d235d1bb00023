-- What the laws say of the steps in which a connection takes its bytes.
use Rattle.std.specs.Prelude.{◌≡◌, [], ◌++◌, true, false}
use Rattle.definitions.specs.Values.{Text}
use Rattle.definitions.specs.Registries.{Reply}
use Rattle.http_definitions.specs.Heads.{is_last, key_of}
use Rattle.http_definitions.specs.Routes.{request_of}
use Rattle.http_definitions.specs.Streams.{Message, without_line_ends, BeginsWith, IsHopeless, IsWaiting}
use Rattle.http_definitions.specs.ReplyTexts.{reply_text, closing_text}
use Rattle.http_definitions.specs.Connections.{Answers, AnswersAsked, Connection, holding, closed, Takes}

-- the request is answered
abbrev pub AnswersOne : {S : Type 0} → Answers S → Message → S → Reply → S → Type 0
AnswersOne answers m s r t = AnswersAsked answers (key_of m.head) (request_of m.head m.body) s r t

abbrev pub PiecesAreTakenAsOne : {S : Type 0} → Answers S → Type 0
PiecesAreTakenAsOne {S} answers =
    (a p : Text) (s t u : S) (first second held : Text) (now : Connection)
    → Takes answers a s first (holding held) t → Takes answers (held ++ p) t second now u
    → Takes answers (a ++ p) s (first ++ second) now u

abbrev pub WaitingBytesAreHeld : {S : Type 0} → Answers S → Type 0
WaitingBytesAreHeld {S} answers =
    (bytes rest : Text) (s : S)
    → rest ≡ without_line_ends bytes → IsWaiting rest → Takes answers bytes s [] (holding rest) s

abbrev pub LineEndsAreDropped : {S : Type 0} → Answers S → Type 0
LineEndsAreDropped {S} answers =
    (bytes : Text) (s : S) → without_line_ends bytes ≡ [] → Takes answers bytes s [] (holding []) s

abbrev pub HopelessBytesClose : {S : Type 0} → Answers S → Type 0
HopelessBytesClose {S} answers =
    (bytes rest : Text) (s : S)
    → rest ≡ without_line_ends bytes → IsHopeless rest → Takes answers bytes s closing_text closed s

abbrev pub LastRequestsClose : {S : Type 0} → Answers S → Type 0
LastRequestsClose {S} answers =
    (bytes : Text) (m : Message) (more : Text) (s t : S) (r : Reply)
    → BeginsWith (without_line_ends bytes) m more → is_last m.head ≡ true → AnswersOne answers m s r t
    → Takes answers bytes s (reply_text (is_last m.head) r) closed t

abbrev pub RequestsAreAnswered : {S : Type 0} → Answers S → Type 0
RequestsAreAnswered {S} answers =
    (bytes : Text) (m : Message) (s t : S) (r : Reply)
    → BeginsWith (without_line_ends bytes) m [] → is_last m.head ≡ false → AnswersOne answers m s r t
    → Takes answers bytes s (reply_text (is_last m.head) r) (holding []) t
