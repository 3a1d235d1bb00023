-- Connections that a hub serves side by side.
use Rattle.std.specs.Prelude.{◌≡◌, ℕ, List, ◌++◌, Result, OnOk}
use Rattle.definitions.specs.Services.{KeyedRegistry}
use Rattle.definitions.specs.Values.{Text}
use Rattle.http_definitions.specs.Connections.{Answers}
use Rattle.connections.specs.Events.{Event, Standing, Answered, Happen, none_is_open, stream_of, sent_to}
use Rattle.connections.specs.Found.{FindsOnly}
use Rattle.connections.specs.declared.outage.Outage.{Outage}
use Rattle.network.specs.Traffic.{Moved, bytes_of}
use Rattle.serving_many.specs.Kept.{IsKept}
use Rattle.http_front.specs.Isolation.{AreIsolated}

-- Events happen on the connections, in whatever order, and are answered so. What is read of each
-- connection is its stream, and what is written on it is a first part of what it is sent. Where an
-- opening found the state at the start alone, it finds what is kept.
pub record AreAnswered {H S : Type 0} (state : H → S) (finds : H → S → Type 0) (answers : Answers S) (before : H) (reads writes : List Moved) (after : H) (more others : List Moved) : Type 0 where
  pub events : List Event
  pub now : ℕ → Standing
  pub happened : Happen answers none_is_open (state before) events now (state after)
  pub read : List Moved
  pub read_on : more ≡ reads ++ read
  pub wrote : List Moved
  pub wrote_on : others ≡ writes ++ wrote
  pub heard : (k : ℕ) → bytes_of k read ≡ stream_of k events
  pub told : (k : ℕ) → (unsent : Text) × (sent_to k events ≡ bytes_of k wrote ++ unsent)
  pub kept : FindsOnly finds before (state before)
      → (t : S) → finds after t → IsKept answers (state before) events wrote t

-- Events happen on the connections, in whatever order, by which each tenant is served as if it were
-- alone. What is read of each connection is its stream, and what is written on it is a first part of
-- what it is sent.
pub record AreServedSideBySide (before : List KeyedRegistry) (reads writes more others : List Moved) : Type 0 where
  pub events : List Event
  pub now : ℕ → Standing
  pub after : List KeyedRegistry
  pub answered : List Answered
  pub isolated : AreIsolated before events now after answered
  pub read : List Moved
  pub read_on : more ≡ reads ++ read
  pub wrote : List Moved
  pub wrote_on : others ≡ writes ++ wrote
  pub heard : (k : ℕ) → bytes_of k read ≡ stream_of k events
  pub told : (k : ℕ) → (unsent : Text) × (sent_to k events ≡ bytes_of k wrote ++ unsent)

-- ---- what an opening may find
-- It is the registries behind a first part of the events, by which each tenant is served as if it
-- were alone; and what was written on each connection is a first part of what these send.
pub record IsKeptAlone (before : List KeyedRegistry) (events : List Event) (wrote : List Moved) (found : List KeyedRegistry) : Type 0 where
  pub kept : List Event
  pub later : List Event
  pub parts : events ≡ kept ++ later
  pub now : ℕ → Standing
  pub answered : List Answered
  pub isolated : AreIsolated before kept now found answered
  pub told : (k : ℕ) → (unsent : Text) × (sent_to k kept ≡ bytes_of k wrote ++ unsent)

-- .. by registries of which an opening finds these at the end: those at the end alone, where it has no error
pub record AreKeptSideBySide (before : List KeyedRegistry) (finds : List KeyedRegistry → Type 0) (reads writes : List Moved) (result : Result (Unit {0}) Outage) (more others : List Moved) : Type 0 where
  pub served : AreServedSideBySide before reads writes more others
  pub kept : (found : List KeyedRegistry) → finds found → IsKeptAlone before served.events served.wrote found
  pub durable : OnOk result ((found : List KeyedRegistry) → finds found → found ≡ served.after)
