-- One connection to a new server.
use Rattle.std.specs.Prelude.{◌≡◌, ◌≢◌, ℕ, List, [], ◌∷◌, ◌++◌, None, Result, Ok, Err, ⊤}
use Rattle.definitions.specs.Faults as meaning
use Rattle.definitions.specs.Services.{KeyedRegistry}
use Rattle.definitions.specs.Values.{Text}
use Rattle.connections.specs.Events.{Event, Standing, Answered, stream_of, sent_to}
use Rattle.faults.specs.View.{fault_view}
use Rattle.faults.specs.declared.Fault.{Fault}
use Rattle.faults.specs.declared.Fault.TheVariants.{NoRoom}
use Rattle.serving.specs.Transfers.{Transfer, transferred_bytes}
use Rattle.serving.specs.Exchanges.{wire}
use Rattle.serving.specs.Serving.{as_failure, IsServed, IsBounded}
use Rattle.serving.specs.declared.failure.Failure.{Failure}
use Rattle.serving.specs.declared.failure.Failure.TheVariants as failure
use Rattle.serving.specs.Talks.{Talk}
use Rattle.http_front.specs.Calls.{call_answers}
use Rattle.http_front.specs.Isolation.{AreIsolated, AreServedAlone}

-- the registries answer the connection, from these on, and each tenant is served as if it were alone
pub record IsHubServed (before : List KeyedRegistry) (reads writes : List Transfer) (result : Result (Unit {0}) Failure) (more others : List Transfer) : Type 0 where
  pub after : List KeyedRegistry
  pub served : IsServed call_answers None (wire before reads writes) result (wire after more others)
  pub bounded : IsBounded reads more
  pub talk : Talk
  pub read_on : more ≡ reads ++ talk.read
  pub wrote_on : others ≡ writes ++ talk.wrote
  pub ended : talk.result ≡ result
  pub alone : AreServedAlone before (talk ∷ []) after

abbrev pub IsRefusedBy : meaning.Fault → Result (Unit {0}) Fault → Type 0
IsRefusedBy f (Ok u) = ⊥
IsRefusedBy f (Err g) = g ≢ NoRoom → f ≡ fault_view g

-- a server that is refused reads and writes nothing
abbrev pub IsRun : Result (List KeyedRegistry) meaning.Fault → List Transfer → List Transfer → Result (Unit {0}) Fault → List Transfer → List Transfer → Type 0
IsRun (Ok ks) reads writes result more others = IsHubServed ks reads writes (as_failure result) more others
IsRun (Err f) reads writes result more others = IsRefusedBy f result × (more ≡ reads) × (others ≡ writes)

-- ---- what an opening may find
-- It is the registries behind a first part of the connection's stream, by which each tenant is served as if it were alone; and
-- what was written is a first part of what that part is sent.
pub record IsTalkKeptAlone (before : List KeyedRegistry) (talk : Talk) (found : List KeyedRegistry) : Type 0 where
  pub events : List Event
  pub now : ℕ → Standing
  pub answered : List Answered
  pub isolated : AreIsolated before events now found answered
  pub unheard : Text
  pub heard : transferred_bytes talk.read ≡ stream_of 0 events ++ unheard
  pub unwritten : Text
  pub told : sent_to 0 events ≡ transferred_bytes talk.wrote ++ unwritten

-- what holds unless settling failed
abbrev pub OnSettled : Result (Unit {0}) Failure → Type 0 → Type 0
OnSettled (Ok u) P = P
OnSettled (Err (failure.Fault f)) P = P
OnSettled (Err (failure.Unsettled why)) P = ⊤

-- .. by registries of which an opening finds these at the end: those at the end alone, unless settling failed
pub record IsHubKept (before : List KeyedRegistry) (finds : List KeyedRegistry → Type 0) (reads writes : List Transfer) (result : Result (Unit {0}) Failure) (more others : List Transfer) : Type 0 where
  pub served : IsHubServed before reads writes result more others
  pub kept : (found : List KeyedRegistry) → finds found → IsTalkKeptAlone before served.talk found
  pub durable : OnSettled result ((found : List KeyedRegistry) → finds found → found ≡ served.after)
