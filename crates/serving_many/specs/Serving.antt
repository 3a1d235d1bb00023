-- What it comes to that many connections are served.
use Rattle.std.specs.Prelude.{◌≡◌, ◌≢◌, ℕ, List, ◌++◌, Some}
use Rattle.definitions.specs.Values.{Text}
use Rattle.http_definitions.specs.Connections.{Answers, closed}
use Rattle.connections.specs.Connected.{handler_of, connection_at}
use Rattle.connections.specs.Found.{FindsOnly}
use Rattle.connections.specs.Events.{Event, Standing, Happen, none_is_open, stream_of, sent_to}
use Rattle.connections.specs.declared.sessions.Sessions.{Sessions}
use Rattle.network.specs.Traffic.{Moved, bytes_of}
use Rattle.network.specs.declared.clients.Client.{Client}
use Rattle.network.specs.declared.clients.Client.TheVariants.{Absent}
use Rattle.serving_many.specs.Going.{Stands}
use Rattle.serving_many.specs.Kept.{IsKept}
use Rattle.serving_many.specs.Present.{MayStay}

-- Some events have happened, of connections of which none was open. What was read of each connection
-- is what it was fed, and what was written on it is a first part of what it was to be sent: not yet
-- all, where it is closed and hasn't ended. Where nobody had a client at first, nobody has one whose
-- connection failed, or has ended and was sent all. Where an opening found the state at the start alone, it
-- finds what is kept: the state behind a first part of the events, of which all was written that was
-- written at all.
pub record IsServed {H S : Type 0} (state : H → S) (finds : H → S → Type 0) (answers : Answers S) (before : Sessions H) (reads writes : List Moved) (clients : ℕ → Client) (after : Sessions H) (more others : List Moved) (remaining : ℕ → Client) : Type 0 where
  pub events : List Event
  pub standing : ℕ → Standing
  pub happened : Happen answers none_is_open (state (handler_of before)) events standing (state (handler_of after))
  pub stands : (k : ℕ) → Stands (standing k) (connection_at after k)
  pub read : List Moved
  pub read_on : more ≡ reads ++ read
  pub wrote : List Moved
  pub wrote_on : others ≡ writes ++ wrote
  pub heard : (k : ℕ) → bytes_of k read ≡ stream_of k events
  pub told : (k : ℕ) → (unsent : Text) × (sent_to k events ≡ bytes_of k wrote ++ unsent)
  pub unfinished : (k : ℕ) → connection_at after k ≡ Some closed → sent_to k events ≢ bytes_of k wrote
  pub present : ((k : ℕ) → clients k ≡ Absent)
      → (k : ℕ) → MayStay (remaining k) (connection_at after k) (sent_to k events) (bytes_of k wrote)
  pub kept : FindsOnly finds (handler_of before) (state (handler_of before))
      → (t : S) → finds (handler_of after) t → IsKept answers (state (handler_of before)) events wrote t
