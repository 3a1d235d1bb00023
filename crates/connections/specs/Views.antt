-- Connections as the definitions have them.
use Rattle.std.specs.Prelude.{◌≡◌, ℕ, [], ◌++◌, length, Bool, true, false}
use Rattle.definitions.specs.Values.{Text}
use Rattle.http_definitions.specs.Connections as meaning
use Rattle.http_definitions.specs.Connections.{Answers, Takes, holding, closed}
use Rattle.connections.specs.Progress.{TakesSome}
use Rattle.connections.specs.declared.connection.Connection.{Connection}
use Rattle.connections.specs.declared.connection.Connection.TheVariants.{Holding, Closed}

abbrev pub connection_view : Connection → meaning.Connection
connection_view (Holding held) = holding held.buffer.items
connection_view Closed = closed

-- a piece goes behind what the connection holds; a closed one ignores it
abbrev pub Feeds : {S : Type 0} → Answers S → meaning.Connection → Text → S → Text → meaning.Connection → S → Type 0
Feeds answers (holding held) piece s out now t = Takes answers (held ++ piece) s out now t
Feeds answers closed piece s out now t = (out ≡ []) × (now ≡ closed) × (t ≡ s)

-- a first part of the requests is answered
abbrev pub FeedsSome : {S : Type 0} → Answers S → meaning.Connection → Text → S → S → Type 0
FeedsSome answers (holding held) piece s t = TakesSome answers (held ++ piece) s t
FeedsSome answers closed piece s t = ⊥

abbrev pub is_closed : meaning.Connection → Bool
is_closed (holding held) = false
is_closed closed = true

-- how many bytes a connection holds
abbrev pub held_count : meaning.Connection → ℕ
held_count (holding held) = length held
held_count closed = 0
