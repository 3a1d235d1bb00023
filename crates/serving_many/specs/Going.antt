-- Many connections are served up to a time.
use Rattle.std.specs.Prelude.{◌≡◌, ◌≤◌, ℕ, List, [], ◌++◌, Option, Some, None}
use Rattle.definitions.specs.Values.{Text}
use Rattle.http_definitions.specs.Connections.{Answers, Connection, closed}
use Rattle.connections.specs.Connected.{handler_of, connection_at}
use Rattle.connections.specs.Found.{FindsOnly}
use Rattle.connections.specs.Events.{Event, Standing, unopened, served, short, ended, lost, Happen, none_is_open, stream_of, sent_to}
use Rattle.connections.specs.declared.sessions.Sessions.{Sessions}
use Rattle.network.specs.Traffic.{Moved, bytes_of}
use Rattle.network.specs.Outboxes.{unsent_at, count_of}
use Rattle.network.specs.declared.outbox.Outbox.{Outbox}
use Rattle.serving_many.specs.Kept.{IsKept}

-- what is open of a connection that stands so
abbrev pub Stands : Standing → Option Connection → Type 0
Stands unopened c = c ≡ None
Stands (served d) c = c ≡ Some d
Stands short c = c ≡ Some closed
Stands ended c = c ≡ None
Stands lost c = c ≡ None

-- a state of the loop
pub record State (H : Type 0) : Type 0 where
  pub handler : H
  pub connection : ℕ → Option Connection
  pub unsent : ℕ → Option Text
  -- the numbers that were given are below it
  pub count : ℕ
  pub reads : List Moved
  pub writes : List Moved

abbrev pub state_of : {H : Type 0} → Sessions H → Outbox → List Moved → List Moved → State H
state_of sessions outbox reads writes =
    record { handler = handler_of sessions; connection = connection_at sessions; unsent = unsent_at outbox; count = count_of outbox; reads = reads; writes = writes }

-- what is to be sent is written but for what is still unsent; of a connection that has ended, a
-- first part
abbrev pub Tells : Text → Text → Option Text → Type 0
Tells sent wrote (Some rest) = sent ≡ wrote ++ rest
Tells sent wrote None = (unsent : Text) × (sent ≡ wrote ++ unsent)

-- from the start on, this has happened
pub record Goes {H S : Type 0} (state : H → S) (finds : H → S → Type 0) (answers : Answers S) (start : H) (reads writes : List Moved) (now : State H) : Type 0 where
  pub events : List Event
  pub standing : ℕ → Standing
  pub happened : Happen answers none_is_open (state start) events standing (state now.handler)
  pub stands : (k : ℕ) → Stands (standing k) (now.connection k)
  pub read : List Moved
  pub read_on : now.reads ≡ reads ++ read
  pub wrote : List Moved
  pub wrote_on : now.writes ≡ writes ++ wrote
  pub heard : (k : ℕ) → bytes_of k read ≡ stream_of k events
  pub told : (k : ℕ) → Tells (sent_to k events) (bytes_of k wrote) (now.unsent k)
  -- a number that wasn't given is no connection's
  pub fresh : (k : ℕ) → now.count ≤ k → (standing k ≡ unopened) × (now.unsent k ≡ None)
  pub silent : (k : ℕ) → now.count ≤ k → (sent_to k events ≡ []) × (bytes_of k wrote ≡ [])
  pub kept : FindsOnly finds start (state start)
      → (t : S) → finds now.handler t → IsKept answers (state start) events wrote t

-- whatever has happened before, goes on so
abbrev pub Keeps : {H S : Type 0} → (H → S) → (H → S → Type 0) → Answers S → State H → State H → Type 0
Keeps {H} state finds answers before after =
    (start : H) (reads writes : List Moved)
    → Goes state finds answers start reads writes before → Goes state finds answers start reads writes after
