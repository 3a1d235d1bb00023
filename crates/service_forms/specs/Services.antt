-- What the forms that serve connections read, and how their registries are judged.
use Rattle.std.specs.Prelude.{◌≡◌, ◌≢◌, ◌⊎◌, ◌<◌, ℕ, List, [], Vec, Option, Some, None, Result, Ok, Err, IfSome, IsErrAnd, length, option_map, ⊤}
use Rattle.std.specs.Borrow.{Bor}
use Rattle.std.specs.Global.{Global}
use Rattle.definitions.specs.Faults as meaning
use Rattle.definitions.specs.Schemas.{Document}
use Rattle.definitions.specs.Services.{KeyedRegistry}
use Rattle.definitions.specs.Values.{Text}
use Rattle.connections.specs.declared.outage.Outage.{Outage}
use Rattle.connections.specs.declared.outage.Outage.TheVariants as outage
use Rattle.faults.specs.View.{fault_view}
use Rattle.faults.specs.declared.Fault.{Fault}
use Rattle.faults.specs.declared.Fault.TheVariants.{NoRoom}
use Rattle.command_line.specs.Calls.{Asked, Start}
use Rattle.command_line.specs.Calls as call
use Rattle.http_front.specs.Isolation.{AreServedAlone}
use Rattle.http_front.specs.Libraries.{OnLibraryOf}
use Rattle.http_front.specs.Running.{IsRun}
use Rattle.http_front.specs.Servers.{server_of}
use Rattle.http_front.specs.SideBySide.{AreServedSideBySide}
use Rattle.network.specs.Traffic.{Moved}
use Rattle.serving.specs.Talks.{Talk}
use Rattle.serving.specs.Transfers.{Transfer}
use Rattle.service_forms.specs.Endings.{EndsListening}
use Rattle.service_forms.specs.declared.stop.Stop.{Stop}
use Rattle.service_forms.specs.declared.stop.Stop.TheVariants.{CannotRead, Refused}
use Rattle.service_forms.specs.declared.service.Sources.{Sources}

-- a path, if there is one
abbrev pub path_view : Option (Bor Text) → Option Text
path_view = option_map (λ s. s.now)

-- the bytes of the library's file, where it is known what files hold
abbrev pub HoldsLibrary : (Text → Option Text) → Option Text → Option (Vec ℕ Global) → Type 0
HoldsLibrary files None None = ⊤
HoldsLibrary files (Some path) (Some bytes) = IfSome (files path) (λ text. bytes.items ≡ text)
HoldsLibrary files _ _ = ⊥

-- the batch of the library, if there is one
abbrev pub batch_of : Sources → Option Text
batch_of sources = option_map (λ b. b.items) sources.library

abbrev pub HoldsSources : (Text → Option Text) → Start → Sources → Type 0
HoldsSources files start sources =
    IfSome (files start.tenants) (λ text. sources.tenants.items ≡ text) × HoldsLibrary files start.library sources.library

-- ---- new registries, or why they are refused
abbrev pub Server : Type 0
Server = Result (List KeyedRegistry) meaning.Fault

-- what holds of the registries of what the files hold
abbrev pub OnServerIn : Sources → ℕ → (Server → Type 0) → Type 0
OnServerIn sources capacity P = OnLibraryOf (batch_of sources) (λ library. P (server_of sources.tenants.items capacity library))

-- what holds of the library that the file gives, where it is known what files hold
abbrev pub OnLibrary : (Text → Option Text) → Option Text → (Result (List Document) meaning.Fault → Type 0) → Type 0
OnLibrary files None P = OnLibraryOf None P
OnLibrary files (Some path) P = IfSome (files path) (λ batch. OnLibraryOf (Some batch) P)

abbrev pub OnServer : (Text → Option Text) → Start → (Server → Type 0) → Type 0
OnServer files start P =
    IfSome (files start.tenants) (λ tenants. OnLibrary files start.library (λ library. P (server_of tenants start.cache library)))

-- what holds of a form in memory, and over the store in a file
abbrev pub OnStore : Option Text → Type 0 → (Text → Type 0) → Type 0
OnStore None P Q = P
OnStore (Some path) P Q = Q path

abbrev pub OnStart : (Text → Option Text) → Start → (Server → Type 0) → (Text → Server → Type 0) → Type 0
OnStart files start P Q = OnStore start.store (OnServer files start P) (λ path. OnServer files start (λ server. Q path server))

-- ---- how a form that serves connections may end
-- the registries are refused for this fault, or memory runs out
abbrev pub IsRefusal : Server → Fault → Type 0
IsRefusal (Ok ks) f = f ≡ NoRoom
IsRefusal (Err g) f = f ≢ NoRoom → g ≡ fault_view f

-- a file cannot be read, or the registries are refused; nothing is served then
abbrev pub IsRefusedStart : Server → Stop → Type 0
IsRefusedStart server (CannotRead name) = ⊤
IsRefusedStart server (Refused f) = IsRefusal server f
IsRefusedStart server _ = ⊥

-- the registries aren't refused, and this holds of them
pub record OnStanding (server : Server) (P : List KeyedRegistry → Type 0) : Type 0 where
  pub registries : List KeyedRegistry
  pub stands : server ≡ Ok registries
  pub holds : P registries

-- the start is refused, or this holds of the registries of the files and of how they end
abbrev pub EndsStarted : (List KeyedRegistry → Result ℕ Stop → Type 0) → Server → Result ℕ Stop → Type 0
EndsStarted serves server result = IsErrAnd result (IsRefusedStart server) ⊎ OnStanding server (λ ks. serves ks result)

-- ---- connections one after the other
-- these registries serve them, each tenant as if it were alone, and this holds of how many they are
abbrev pub ServeAlone : List KeyedRegistry → (ℕ → Type 0) → Type 0
ServeAlone registries P = (talks : List Talk) × (after : List KeyedRegistry) × P (length talks) × AreServedAlone registries talks after

-- so many, or fewer where one can't be accepted
abbrev pub ServeInTurn : List KeyedRegistry → ℕ → Result (Unit {0}) Outage → Type 0
ServeInTurn registries count (Ok u) = ServeAlone registries (λ n. n ≡ count)
ServeInTurn registries count (Err outage.Broken) = ServeAlone registries (λ n. n < count)
ServeInTurn registries count (Err (outage.Unsettled why)) = ⊥

abbrev pub EndsServing : Text → ℕ → Server → Result ℕ Stop → Type 0
EndsServing address count server result = EndsStarted (λ ks r. EndsListening address None (ServeInTurn ks count) r) server result

-- ---- connections side by side
-- what is read and written of them, from what was and up to this end
abbrev pub Serving : Type 1
Serving = List Moved → List Moved → Result (Unit {0}) Outage → List Moved → List Moved → Type 0

-- .. where nothing was read or written yet
abbrev pub AreServedSo : Serving → Result (Unit {0}) Outage → Type 0
AreServedSo serves end = (reads : List Moved) × (writes : List Moved) × serves [] [] end reads writes

-- .. by these registries, each tenant as if it were alone
abbrev pub ServesAlone : List KeyedRegistry → Serving
ServesAlone registries reads writes end more others = AreServedSideBySide registries reads writes more others

abbrev pub EndsServingMany : Text → Server → Result ℕ Stop → Type 0
EndsServingMany address server result =
    EndsStarted (λ ks r. EndsListening address None (AreServedSo (ServesAlone ks)) r) server result

-- ---- a connection on standard input and output
-- It is answered to its end, or up to a fault, by the registries that the files give; or a file cannot be read. Nothing is read
-- or written where the registries are refused or not come to
abbrev pub EndsRun : Server → List Transfer → List Transfer → Result ℕ Stop → List Transfer → List Transfer → Type 0
EndsRun server reads writes (Ok status) more others = (status ≡ 0) × IsRun server reads writes (Ok tt) more others
EndsRun server reads writes (Err (Refused f)) more others = IsRun server reads writes (Err f) more others
EndsRun server reads writes (Err (CannotRead name)) more others = (more ≡ reads) × (others ≡ writes)
EndsRun server reads writes (Err _) more others = ⊥

-- .. with this status
abbrev pub RunsWith : Server → List Transfer → List Transfer → ℕ → List Transfer → List Transfer → Type 0
RunsWith server reads writes status more others =
    ((status ≡ 0) × IsRun server reads writes (Ok tt) more others)
    ⊎ ((status ≡ 2) × (((more ≡ reads) × (others ≡ writes)) ⊎ ((f : Fault) × IsRun server reads writes (Err f) more others)))

-- what holds of the server of a call that serves one connection, where it is known what its files hold
abbrev pub OnRun : (Text → Option Text) → Asked → (Server → Type 0) → (Text → Server → Type 0) → Type 0
OnRun files (call.run start) P Q = OnStart files start P Q
OnRun files _ P Q = ⊤
