-- What happens on many connections, in the order in which it happens, and what comes of it.
use Rattle.std.specs.Prelude.{◌≡◌, ◌≢◌, ℕ, List, [], ◌∷◌, ◌++◌, ◌==◌, if◌then◌else◌, length, map, ⊤}
use Rattle.definitions.specs.Values.{Text}
use Rattle.definitions.specs.Registries.{Reply}
use Rattle.http_definitions.specs.Streams.{Message, Spells, close}
use Rattle.http_definitions.specs.Connections.{Answers, AnswersAll, Connection, holding, Ends, reply_texts, last_words}
use Rattle.http_laws.specs.Answering.{AnswerOnce, IsSameSoFar}
use Rattle.connections.specs.Views.{Feeds, FeedsSome}

-- ---- events
-- what happens on a connection
pub data Change : Type 0 where
  -- it is opened
  opens : Change
  -- a piece is fed, and these bytes are to be sent
  feeds : Text → Text → Change
  -- memory lacks for a piece: nothing is to be sent for it, and the connection is closed
  stops : Text → Change
  -- its stream ends, and these bytes are to be sent at last
  ends : Text → Change
  -- its stream ends, and memory lacks for what was to be sent at last
  breaks : Change

-- one of the connections, each under a number of its own, and what happens on it
pub record Event : Type 0 where
  pub connection : ℕ
  pub change : Change

-- how a connection stands: short where memory lacked for a piece, and lost where it has ended so
pub data Standing : Type 0 where
  unopened : Standing
  served : Connection → Standing
  short : Standing
  ended : Standing
  lost : Standing

-- a change of one connection, and of what answers the requests of all
abbrev pub IsChange : {S : Type 0} → Answers S → Standing → S → Change → Standing → S → Type 0
IsChange answers unopened s opens now t = (now ≡ served (holding [])) × (t ≡ s)
IsChange answers (served c) s (feeds piece out) now t = (d : Connection) × (now ≡ served d) × Feeds answers c piece s out d t
IsChange answers (served c) s (stops piece) now t = (now ≡ short) × FeedsSome answers c piece s t
IsChange answers (served c) s (ends out) now t = (now ≡ ended) × (out ≡ last_words c) × (t ≡ s)
IsChange answers (served c) s breaks now t = (now ≡ lost) × (t ≡ s)
IsChange answers short s (feeds piece out) now t = (now ≡ short) × (out ≡ []) × (t ≡ s)
IsChange answers short s (ends out) now t = (now ≡ lost) × (out ≡ []) × (t ≡ s)
IsChange answers short s breaks now t = (now ≡ lost) × (t ≡ s)
IsChange answers _ s _ now t = ⊥

-- the events happen in turn, each on its own connection
abbrev pub Happen : {S : Type 0} → Answers S → (ℕ → Standing) → S → List Event → (ℕ → Standing) → S → Type 0
Happen answers at s [] now t = ((k : ℕ) → now k ≡ at k) × (t ≡ s)
Happen {S} answers at s (e ∷ es) now t =
    (next : ℕ → Standing) × (u : S) × IsChange answers (at e.connection) s e.change (next e.connection) u
    × ((k : ℕ) → k ≢ e.connection → next k ≡ at k) × Happen answers next u es now t

-- before any is opened
abbrev pub none_is_open : ℕ → Standing
none_is_open k = unopened

-- ---- what was fed and sent
abbrev pub piece_in : Change → Text
piece_in (feeds piece out) = piece
piece_in (stops piece) = piece
piece_in _ = []

abbrev pub bytes_in : Change → Text
bytes_in (feeds piece out) = out
bytes_in (ends out) = out
bytes_in _ = []

-- one connection's stream, however it was cut
abbrev pub stream_of : ℕ → List Event → Text
stream_of k [] = []
stream_of k (e ∷ es) = if k == e.connection then piece_in e.change ++ stream_of k es else stream_of k es

-- what it was to be sent
abbrev pub sent_to : ℕ → List Event → Text
sent_to k [] = []
sent_to k (e ∷ es) = if k == e.connection then bytes_in e.change ++ sent_to k es else sent_to k es

-- ---- whole requests
-- one of a connection, with its reply
pub record Answered : Type 0 where
  pub connection : ℕ
  pub message : Message
  pub reply : Reply

abbrev pub messages_of : ℕ → List Answered → List Message
messages_of k [] = []
messages_of k (a ∷ xs) = if k == a.connection then a.message ∷ messages_of k xs else messages_of k xs

abbrev pub replies_of : ℕ → List Answered → List Reply
replies_of k [] = []
replies_of k (a ∷ xs) = if k == a.connection then a.reply ∷ replies_of k xs else replies_of k xs

-- the stream spells these requests, and their replies are sent
pub record IsSent (stream : Text) (ms : List Message) (rs : List Reply) (out : Text) (now : Connection) : Type 0 where
  pub rest : Text
  pub told : Text
  pub spelled : Spells stream ms rest
  pub paired : length ms ≡ length rs
  pub ends : Ends (close ms) rest told now
  pub out_is : out ≡ reply_texts ms rs ++ told

-- a first part of the stream spells these requests, and a first part of their replies is sent
pub record IsSentInPart (stream : Text) (ms : List Message) (rs : List Reply) (out : Text) : Type 0 where
  pub part : Text
  pub more : Text
  pub whole : stream ≡ part ++ more
  pub told : Text
  pub untold : Text
  pub cut : told ≡ out ++ untold
  pub now : Connection
  pub sent : IsSent part ms rs told now

-- all is sent up to the end of the stream
pub record IsSentToTheEnd (stream : Text) (ms : List Message) (rs : List Reply) (out : Text) : Type 0 where
  pub told : Text
  pub now : Connection
  pub sent : IsSent stream ms rs told now
  pub out_is : out ≡ told ++ last_words now

-- what is answered and sent on a connection that stands so
abbrev pub IsServed : Text → List Message → List Reply → Text → Standing → Type 0
IsServed stream ms rs out unopened = (stream ≡ []) × (ms ≡ []) × (rs ≡ []) × (out ≡ [])
IsServed stream ms rs out (served c) = IsSent stream ms rs out c
IsServed stream ms rs out short = IsSentInPart stream ms rs out
IsServed stream ms rs out ended = IsSentToTheEnd stream ms rs out
IsServed stream ms rs out lost = IsSentInPart stream ms rs out

-- All requests in the order in which they were answered, each from the state that the one before
-- left; those of each connection are what its stream spells.
pub record IsHistory {S : Type 0} (answers : Answers S) (s : S) (es : List Event) (now : ℕ → Standing) (t : S) (xs : List Answered) : Type 0 where
  pub answered : AnswersAll answers s (map (λ a. a.message) xs) (map (λ a. a.reply) xs) t
  pub served : (k : ℕ) → IsServed (stream_of k es) (messages_of k xs) (replies_of k xs) (sent_to k es) (now k)

-- ---- what the laws say
-- of connections of which none is open at first
abbrev pub EventsAreAnswered : {S : Type 0} → Answers S → Type 0
EventsAreAnswered {S} answers =
    (es : List Event) (s t : S) (now : ℕ → Standing)
    → Happen answers none_is_open s es now t → (xs : List Answered) × IsHistory answers s es now t xs

-- the requests of connections, without their replies
abbrev pub asked_messages : List Answered → List (ℕ × Message)
asked_messages = map (λ a. (a.connection, a.message))

-- what two connections with one stream were sent, where memory lacked for neither
abbrev pub AreSentAlike : Text → Standing → Text → Standing → Type 0
AreSentAlike out (served c) other_out (served d) = IsSameSoFar out c other_out d
AreSentAlike out ended other_out ended = out ≡ other_out
AreSentAlike out now other_out other = ⊤

abbrev pub CutsDecideNothing : {S : Type 0} → Answers S → Type 0
CutsDecideNothing {S} answers =
    AnswerOnce answers
    → (es fs : List Event) (s t u : S) (now other : ℕ → Standing) (xs ys : List Answered)
    → IsHistory answers s es now t xs → IsHistory answers s fs other u ys
    → asked_messages xs ≡ asked_messages ys → ((k : ℕ) → stream_of k es ≡ stream_of k fs)
    → (t ≡ u) × ((k : ℕ) → AreSentAlike (sent_to k es) (now k) (sent_to k fs) (other k))
