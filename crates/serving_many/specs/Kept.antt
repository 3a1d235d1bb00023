-- What an opening may find.
use Rattle.std.specs.Prelude.{◌≡◌, ℕ, List, ◌++◌}
use Rattle.definitions.specs.Values.{Text}
use Rattle.http_definitions.specs.Connections.{Answers}
use Rattle.connections.specs.Events.{Event, Standing, Happen, none_is_open, sent_to}
use Rattle.network.specs.Traffic.{Moved, bytes_of}

-- It is the state behind a first part of the events; and what was written on each connection is a
-- first part of what these send.
pub record IsKept {S : Type 0} (answers : Answers S) (s : S) (events : List Event) (wrote : List Moved) (t : S) : Type 0 where
  pub kept : List Event
  pub later : List Event
  pub parts : events ≡ kept ++ later
  pub standing : ℕ → Standing
  pub happened : Happen answers none_is_open s kept standing t
  pub told : (k : ℕ) → (unsent : Text) × (sent_to k kept ≡ bytes_of k wrote ++ unsent)
