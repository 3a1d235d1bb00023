-- The forms that serve connections over a store of documents.
use Rattle.std.specs.Prelude.{◌≡◌, ◌⊎◌, ◌++◌, ◌∷◌, [], ◌<◌, ℕ, List, Option, Some, Result, Ok, Err, IsErrAnd, length, ⊤}
use Rattle.definitions.specs.Patterns.{regular_search}
use Rattle.definitions.specs.Services.{KeyedRegistry}
use Rattle.definitions.specs.Values.{Text}
use Rattle.connections.specs.declared.outage.Outage.{Outage}
use Rattle.connections.specs.declared.outage.Outage.TheVariants as outage
use Rattle.http_front.specs.Isolation.{AreServedAlone}
use Rattle.http_front.specs.Running.{IsHubKept}
use Rattle.http_front.specs.SideBySide.{AreKeptSideBySide}
use Rattle.http_front.specs.Stored.{FindsThese}
use Rattle.serving.specs.Talks.{Talk}
use Rattle.serving.specs.Transfers.{Transfer}
use Rattle.serving.specs.declared.failure.Failure.{Failure}
use Rattle.serving.specs.declared.failure.Failure.TheVariants as failure
use Rattle.stored_hub.specs.RefusedOpenings.{IsRefusedOpening}
use Rattle.stored_hub.specs.Storing.{Finds}
use Rattle.stored_rows.specs.Restoring.{Restores}
use Rattle.stored_rows.specs.Rows.{Row}
use Rattle.command_line.specs.Calls.{Asked}
use Rattle.command_line.specs.Calls as call
use Rattle.service_forms.specs.Endings.{EndsListening}
use Rattle.service_forms.specs.Services.{AreServedSo, EndsServing, EndsServingMany, IsRefusedStart, OnStanding, OnStart, Server, Serving}
use Rattle.service_forms.specs.declared.stop.Stop.{Stop}
use Rattle.service_forms.specs.declared.stop.Stop.TheVariants.{Refused, Store}
use Rattle.service_forms.specs.declared.store_stop.StoreStop.{StoreStop}
use Rattle.service_forms.specs.declared.store_stop.StoreStop.TheVariants.{Unopened, Unrestored, Unsettled}

-- ---- the start
-- rows of a store, put back into the first registries, give the second
abbrev pub HasRestored : List KeyedRegistry → List KeyedRegistry → Type 0
HasRestored ks ls = (rows : List Row) × Restores regular_search ks rows ls

-- the store in the file at this path isn't opened, or what it has isn't put back into these registries
abbrev pub IsRefusedStore : Text → List KeyedRegistry → StoreStop → Type 0
IsRefusedStore path ks (Unopened p fault) = p.now ≡ path
IsRefusedStore path ks (Unrestored p refusal) = (p.now ≡ path) × IsRefusedOpening ks refusal
IsRefusedStore path ks (Unsettled p why) = ⊥

-- nothing is served: the start is refused, or the store is
abbrev pub IsUnserved : Text → Server → Stop → Type 0
IsUnserved path server stop =
    IsRefusedStart server stop ⊎ OnStanding server (λ ks. (s : StoreStop) × (stop ≡ Store s) × IsRefusedStore path ks s)

-- the registries of the files aren't refused, and this holds of those with the documents that a store had
pub record OnRestored (server : Server) (P : List KeyedRegistry → Type 0) : Type 0 where
  pub registries : List KeyedRegistry
  pub stands : server ≡ Ok registries
  pub serving : List KeyedRegistry
  pub restored : HasRestored registries serving
  pub holds : P serving

-- nothing is served, or this holds of those registries and of how they end
abbrev pub EndsStored : Text → (List KeyedRegistry → Result ℕ Stop → Type 0) → Server → Result ℕ Stop → Type 0
EndsStored path serves server result = IsErrAnd result (IsUnserved path server) ⊎ OnRestored server (λ ls. serves ls result)

-- ---- one connection
-- how a call ends behind a connection
abbrev pub IsEndOf : Text → Result (Unit {0}) Failure → Result ℕ Stop → Type 0
IsEndOf path (Ok u) (Ok status) = status ≡ 0
IsEndOf path (Err (failure.Fault f)) (Err (Refused g)) = g ≡ f
IsEndOf path (Err (failure.Unsettled why)) (Err (Store (Unsettled p w))) = (p.now ≡ path) × (w ≡ why)
IsEndOf path _ _ = ⊥

-- these registries answer it, and what an opening finds of the store at the end is kept
pub record RunsKept {D : Type 0} (path : Text) (recovers : D → List Row → Type 0) (ls : List KeyedRegistry) (reads writes : List Transfer) (result : Result ℕ Stop) (more others : List Transfer) : Type 0 where
  pub store : D
  pub after : List KeyedRegistry
  pub served : Result (Unit {0}) Failure
  pub kept : IsHubKept ls (Finds recovers store after) reads writes served more others
  pub ended : IsEndOf path served result

-- .. or nothing is read or written
abbrev pub EndsStoredRun : {D : Type 0} → Text → (D → List Row → Type 0) → Server → List Transfer → List Transfer → Result ℕ Stop → List Transfer → List Transfer → Type 0
EndsStoredRun path recovers server reads writes result more others =
    (IsErrAnd result (IsUnserved path server) × (more ≡ reads) × (others ≡ writes))
    ⊎ OnRestored server (λ ls. RunsKept path recovers ls reads writes result more others)

-- .. with this status
abbrev pub RunsStoredWith : {D : Type 0} → Text → (D → List Row → Type 0) → Server → List Transfer → List Transfer → ℕ → List Transfer → List Transfer → Type 0
RunsStoredWith path recovers server reads writes status more others =
    ((status ≡ 0) × EndsStoredRun path recovers server reads writes (Ok 0) more others)
    ⊎ ((status ≡ 2) × ((stop : Stop) × EndsStoredRun path recovers server reads writes (Err stop) more others))

-- ---- connections one after the other
-- These registries serve them, each tenant as if it were alone, this holds of how many they are, and an opening finds the
-- registries at the end alone
pub record ServeDurably {D : Type 0} (recovers : D → List Row → Type 0) (before : List KeyedRegistry) (P : ℕ → Type 0) : Type 0 where
  pub talks : List Talk
  pub after : List KeyedRegistry
  pub counted : P (length talks)
  pub alone : AreServedAlone before talks after
  pub store : D
  pub durable : FindsThese recovers store after

-- all that was written on a connection, and a first part of what was read
abbrev pub IsPartOf : Talk → Talk → Type 0
IsPartOf part talk = (unheard : List Transfer) × (talk.read ≡ part.read ++ unheard) × (talk.wrote ≡ part.wrote)

-- What an opening may find where the last connection couldn't be settled: the registries behind a first part of what was read
-- on it, which answers all that was written
abbrev pub AreTalksKept : List KeyedRegistry → List KeyedRegistry → Type 0
AreTalksKept before found =
    (talks : List Talk) × (last : Talk) × (part : Talk) × IsPartOf part last × AreServedAlone before (talks ++ part ∷ []) found

abbrev pub ServeUnsettled : {D : Type 0} → (D → List Row → Type 0) → List KeyedRegistry → Type 0
ServeUnsettled {D} recovers before =
    (store : D) × (after : List KeyedRegistry) × ((found : List KeyedRegistry) → Finds recovers store after found → AreTalksKept before found)

-- so many, or fewer where one can't be accepted or settled
abbrev pub ServeStoredInTurn : {D : Type 0} → (D → List Row → Type 0) → List KeyedRegistry → ℕ → Result (Unit {0}) Outage → Type 0
ServeStoredInTurn recovers ls count (Ok u) = ServeDurably recovers ls (λ n. n ≡ count)
ServeStoredInTurn recovers ls count (Err outage.Broken) = ServeDurably recovers ls (λ n. n < count)
ServeStoredInTurn recovers ls count (Err (outage.Unsettled why)) = ServeUnsettled recovers ls

abbrev pub EndsStoredServing : {D : Type 0} → Text → (D → List Row → Type 0) → Text → ℕ → Server → Result ℕ Stop → Type 0
EndsStoredServing path recovers address count server result =
    EndsStored path (λ ls r. EndsListening address (Some path) (ServeStoredInTurn recovers ls count) r) server result

-- ---- connections side by side
-- these registries serve, and what an opening finds of the store at the end is kept
abbrev pub ServesKept : {D : Type 0} → (D → List Row → Type 0) → List KeyedRegistry → Serving
ServesKept {D} recovers ls reads writes end more others =
    (store : D) × (after : List KeyedRegistry) × AreKeptSideBySide ls (Finds recovers store after) reads writes end more others

-- .. where an opening found them alone
abbrev pub ServesFound : {D : Type 0} → (D → List Row → Type 0) → D → List KeyedRegistry → Serving
ServesFound recovers store ls reads writes end more others = FindsThese recovers store ls → ServesKept recovers ls reads writes end more others

abbrev pub EndsStoredMany : {D : Type 0} → Text → (D → List Row → Type 0) → Text → Server → Result ℕ Stop → Type 0
EndsStoredMany path recovers address server result =
    EndsStored path (λ ls r. EndsListening address (Some path) (AreServedSo (ServesKept recovers ls)) r) server result

-- ---- what is asked for
-- connections at an address are served so, in memory or over a store, where it is known what the files hold
abbrev pub EndsAsked : {D : Type 0} → (D → List Row → Type 0) → (Text → Option Text) → Asked → Result ℕ Stop → Type 0
EndsAsked recovers files (call.serve start listen accept) result = OnStart files start (λ server. EndsServing listen accept server result)
    (λ path server. EndsStoredServing path recovers listen accept server result)
EndsAsked recovers files (call.serve_many start listen limits logging) result = OnStart files start (λ server. EndsServingMany listen server result)
    (λ path server. EndsStoredMany path recovers listen server result)
EndsAsked recovers files _ result = ⊤
