-- What a call reads, where it listens, and how it may end, whatever is read.
use Rattle.std.specs.Prelude.{◌≡◌, ◌⊎◌, ◌≤◌, ℕ, ◌∷◌, [], List, Bool, true, false, Option, Some, None, Result, Ok, Err, IfOk, is_some, if◌then◌else◌, ⊤, codes}
use Rattle.std.specs.List.{list_any}
use Rattle.definitions.specs.Values.{Text}
use Rattle.command_line.specs.Calls.{Asked, Start}
use Rattle.command_line.specs.Calls as call
use Rattle.connections.specs.declared.outage.Outage.{Outage}
use Rattle.service_forms.specs.Stops.{IsNamed, IsStopOf, IsUnopened, IsUnreadAmong}
use Rattle.service_forms.specs.declared.stop.Stop.{Stop}
use Rattle.service_forms.specs.declared.stop.Stop.TheVariants.{CannotRead, Refused, CannotWrite, CannotListen, CannotAccept, CannotLog, Told, TooManyConnections, Store}

abbrev pub library_name : Option Text → List Text
library_name None = []
library_name (Some library) = library ∷ []

-- the files of a service, in the order in which they are read
abbrev pub files_of : Start → List Text
files_of s = s.tenants ∷ library_name s.library

-- the files that a call reads, in this order; the forms that judge folders tell themselves what they cannot read
abbrev pub files_in : Asked → List Text
files_in call.input = []
files_in (call.check uri schema instance) = schema ∷ instance ∷ []
files_in (call.check_many checks) = []
files_in (call.bundle bundling) = []
files_in (call.scan scanning) = []
files_in (call.run start) = files_of start
files_in (call.serve start listen accept) = files_of start
files_in (call.serve_many start listen limits logging) = files_of start

-- what a call reads, by name
abbrev pub names_of : Asked → List Text
names_of call.input = codes "-" ∷ []
names_of (call.check uri schema instance) = schema ∷ instance ∷ []
names_of (call.check_many checks) = []
names_of (call.bundle bundling) = []
names_of (call.scan scanning) = []
names_of (call.run start) = files_of start
names_of (call.serve start listen accept) = files_of start
names_of (call.serve_many start listen limits logging) = files_of start

-- where a call listens
abbrev pub address_of : Asked → Option Text
address_of (call.serve start listen accept) = Some listen
address_of (call.serve_many start listen limits logging) = Some listen
address_of _ = None

-- a call that serves connections
abbrev pub is_service : Asked → Bool
is_service (call.run start) = true
is_service (call.serve start listen accept) = true
is_service (call.serve_many start listen limits logging) = true
is_service _ = false

-- Why there is no status: what cannot be read has one of these names, and only a call that listens may fail to, at its
-- address; what a form told itself, it read by other names
abbrev pub StopsReading : List Text → Option Text → Stop → Type 0
StopsReading names address (CannotRead name) = IsNamed name.now names
StopsReading names address (Refused f) = ⊤
StopsReading names address CannotWrite = ⊤
StopsReading names address Told = names ≡ []
StopsReading names address (CannotListen a) = address ≡ Some a.now
StopsReading names address CannotAccept = is_some address ≡ true
StopsReading names address (CannotLog path) = is_some address ≡ true
StopsReading names address (TooManyConnections most) = is_some address ≡ true
StopsReading names address (Store s) = ⊤
StopsReading names address _ = ⊥

-- the status of a call, or why there is none
abbrev pub EndsReading : List Text → Option Text → Result ℕ Stop → Type 0
EndsReading names address (Ok status) = status ≤ 1
EndsReading names address (Err stop) = StopsReading names address stop

-- Connections at the address are served so, over the store in the file at this path, if there is one: up to their end, with
-- the status 0, or up to an outage; or none can come
abbrev pub EndsListening : Text → Option Text → (Result (Unit {0}) Outage → Type 0) → Result ℕ Stop → Type 0
EndsListening address path served (Ok status) = (status ≡ 0) × served (Ok tt)
EndsListening address path served (Err stop) = IsUnopened address stop ⊎ ((why : Outage) × IsStopOf path why stop × served (Err why))

-- ---- the order in which files are read, where some are known to be unreadable
-- the names up to the first of a file that is unreadable
abbrev pub up_to_unreadable : (Text → Bool) → List Text → List Text
up_to_unreadable unreadable [] = []
up_to_unreadable unreadable (n ∷ ns) = n ∷ (if unreadable n then [] else up_to_unreadable unreadable ns)

-- one of these cannot be read, or memory ran out
abbrev pub StopsAmong : {T : Type 0} → List Text → Result T Stop → Type 0
StopsAmong names (Ok x) = ⊥
StopsAmong names (Err stop) = IsUnreadAmong names stop

-- files are read in this order: the first unreadable one ends the call, and none behind it is named
abbrev pub ReadsInOrder : {T : Type 0} → (Text → Bool) → List Text → Result T Stop → Type 0
ReadsInOrder unreadable names result = list_any unreadable names ≡ true → StopsAmong (up_to_unreadable unreadable names) result

-- a form that serves connections reads its files in order, has the status 0 or none, and fails to listen only where it listens
pub record EndsService (unreadable : Text → Bool) (start : Start) (address : Option Text) (result : Result ℕ Stop) : Type 0 where
  pub reading : EndsReading (files_of start) address result
  pub order : ReadsInOrder unreadable (files_of start) result
  pub status : IfOk result (λ status. status ≡ 0)
