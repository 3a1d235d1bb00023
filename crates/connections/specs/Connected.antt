-- Connections by their ids.
use Rattle.std.specs.Prelude.{◌≡◌, ◌≢◌, [], ℕ, Option, Some, None, option_map, Bool, true, Result, Ok, Err, Vec}
use Rattle.std.specs.BTreeMap.{get}
use Rattle.std.specs.Ordering.{nat_cmp}
use Rattle.std.specs.Global.{Global}
use Rattle.definitions.specs.Values.{Text}
use Rattle.http_definitions.specs.Connections.{Answers, Connection, holding, closed, last_words}
use Rattle.faults.specs.declared.Fault.{Fault}
use Rattle.faults.specs.declared.Fault.TheVariants.{NoRoom, IdInUse, NoSession}
use Rattle.connections.specs.Views.{connection_view, Feeds, FeedsSome, is_closed, held_count}
use Rattle.connections.specs.declared.sessions.Sessions.{Sessions}

-- what answers the requests of all connections
abbrev pub handler_of : {H : Type 0} → Sessions H → H
handler_of s = s.handler

-- the connection with this id, where it is open
abbrev pub connection_at : {H : Type 0} → Sessions H → ℕ → Option Connection
connection_at s id = option_map connection_view (get nat_cmp s.connections id)

-- every other connection is as it was
abbrev pub OthersStay : {H : Type 0} → ℕ → Sessions H → Sessions H → Type 0
OthersStay id old new = (k : ℕ) → k ≢ id → connection_at new k ≡ connection_at old k

-- an id is opened where it isn't in use
abbrev pub IsOpened : Option Connection → Result (Unit {0}) Fault → Option Connection → Type 0
IsOpened (Some c) result now = (result ≡ Err IdInUse) × (now ≡ Some c)
IsOpened None (Ok _) now = now ≡ Some (holding [])
IsOpened None (Err f) now = (f ≡ NoRoom) × (now ≡ None)

-- a piece goes to the connection, and these bytes are to be sent; want of memory closes it
abbrev pub IsFed : {S : Type 0} → Answers S → Option Connection → Text → S → Result (Unit {0}) Fault → Text → Option Connection → S → Type 0
IsFed answers None piece s result out now t = (result ≡ Err NoSession) × (now ≡ None) × (t ≡ s)
IsFed answers (Some c) piece s (Ok u) out now t = (d : Connection) × (now ≡ Some d) × Feeds answers c piece s out d t
IsFed answers (Some c) piece s (Err f) out now t = (f ≡ NoRoom) × (now ≡ Some closed) × FeedsSome answers c piece s t

-- .. and are answered
abbrev pub IsAnswered : {S : Type 0} → Answers S → Option Connection → Text → S → Result (Vec ℕ Global) Fault → Option Connection → S → Type 0
IsAnswered answers c piece s (Ok out) now t = IsFed answers c piece s (Ok tt) out.items now t
IsAnswered answers c piece s (Err f) now t = IsFed answers c piece s (Err f) [] now t

-- the stream ends, and the id is free
abbrev pub IsEnded : Option Connection → Result (Vec ℕ Global) Fault → Option Connection → Type 0
IsEnded None result now = (result ≡ Err NoSession) × (now ≡ None)
IsEnded (Some c) (Ok out) now = (out.items ≡ last_words c) × (now ≡ None)
IsEnded (Some c) (Err f) now = (f ≡ NoRoom) × (now ≡ None)

-- an id that isn't open is closed
abbrev pub is_closed_at : Option Connection → Bool
is_closed_at None = true
is_closed_at (Some c) = is_closed c

-- an id that isn't open holds nothing
abbrev pub held_count_at : Option Connection → ℕ
held_count_at None = 0
held_count_at (Some c) = held_count c
