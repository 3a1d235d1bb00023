-- How a call ends whose registries serve, whatever is read.
use Rattle.std.proofs.Common.{◌≡◌, ℕ, List, [], true, Option, Some, Result, Ok, Err, ap, refl, inl, inr, arith}
use Rattle.std.specs.Prelude.{Bool, IfOk}
use Rattle.std.specs.List.{list_any}
use Rattle.definitions.specs.Values.{Text}
use Rattle.command_line.specs.Calls.{Start}
use Rattle.connections.specs.declared.outage.Outage.{Outage}
use Rattle.http_front.proofs.Refused.{refused_run}
use Rattle.service_forms.specs.declared.stop.Stop.{Stop}
use Rattle.service_forms.specs.declared.stop.Stop.TheVariants.{Words, NotText, CannotRead, Refused, CannotWrite, CannotListen, CannotAccept, CannotLog, Told, TooManyConnections, Store}
use Rattle.service_forms.specs.Endings.{EndsListening, EndsReading, EndsService, StopsReading, files_of, up_to_unreadable}
use Rattle.network.specs.Traffic.{Moved}
use Rattle.serving.specs.Transfers.{Transfer}
use Rattle.service_forms.specs.Services.{AreServedSo, EndsRun, IsRefusedStart, Server, Serving}
use Rattle.service_forms.specs.Stops.{IsStopOf, IsUnopened, IsUnreadAmong}

pub unread_reading : (names : List Text) (address : Option Text) (stop : Stop) → IsUnreadAmong names stop → StopsReading names address stop
unread_reading names address (Words e) h = absurd h
unread_reading names address NotText h = absurd h
unread_reading names address (CannotRead name) h = h
unread_reading names address (Refused f) h = tt
unread_reading names address CannotWrite h = tt
unread_reading names address (CannotListen a) h = absurd h
unread_reading names address CannotAccept h = absurd h
unread_reading names address (CannotLog path) h = absurd h
unread_reading names address Told h = absurd h
unread_reading names address (TooManyConnections most) h = absurd h
unread_reading names address (Store s) h = tt

unopened_reading : (names : List Text) (address : Text) (stop : Stop) → IsUnopened address stop → StopsReading names (Some address) stop
unopened_reading names address (Words e) h = absurd h
unopened_reading names address NotText h = absurd h
unopened_reading names address (CannotRead name) h = absurd h
unopened_reading names address (Refused f) h = tt
unopened_reading names address CannotWrite h = tt
unopened_reading names address (CannotListen a) h = ap Some h
unopened_reading names address CannotAccept h = refl
unopened_reading names address (CannotLog path) h = refl
unopened_reading names address Told h = absurd h
unopened_reading names address (TooManyConnections most) h = refl
unopened_reading names address (Store s) h = tt

outage_reading : (names : List Text) (address : Text) (path : Option Text) (why : Outage) (stop : Stop) → IsStopOf path why stop → StopsReading names (Some address) stop
outage_reading names address path why (Words e) h = absurd h
outage_reading names address path why NotText h = absurd h
outage_reading names address path why (CannotRead name) h = absurd h
outage_reading names address path why (Refused f) h = tt
outage_reading names address path why CannotWrite h = tt
outage_reading names address path why (CannotListen a) h = absurd h
outage_reading names address path why CannotAccept h = refl
outage_reading names address path why (CannotLog log) h = refl
outage_reading names address path why Told h = absurd h
outage_reading names address path why (TooManyConnections most) h = refl
outage_reading names address path why (Store s) h = tt

listened_reading : (names : List Text) (address : Text) (path : Option Text) (served : Result (Unit {0}) Outage → Type 0) (result : Result ℕ Stop)
    → EndsListening address path served result → EndsReading names (Some address) result
listened_reading names address path served (Ok status) h = omega (arith, h.0)
listened_reading names address path served (Err stop) h = elim h [
  | inl unopened ↦ unopened_reading names address stop unopened
  | inr outage ↦ outage_reading names address path outage.0 stop outage.1
]

listened_status : (address : Text) (path : Option Text) (served : Result (Unit {0}) Outage → Type 0) (result : Result ℕ Stop)
    → EndsListening address path served result → IfOk result (λ status. status ≡ 0)
listened_status address path served (Ok status) h = h.0
listened_status address path served (Err stop) h = tt

-- behind a start that was made
pub ended_service : (unreadable : Text → Bool) (start : Start) (address : Option Text) (result : Result ℕ Stop) → (list_any unreadable (files_of start) ≡ true → ⊥)
    → EndsReading (files_of start) address result → IfOk result (λ status. status ≡ 0) → EndsService unreadable start address result
ended_service unreadable start address result order reading status = record { reading = reading; order = λ some. absurd (order some); status = status }

pub listened_service : (unreadable : Text → Bool) (start : Start) (address : Text) (path : Option Text) (served : Result (Unit {0}) Outage → Type 0) (result : Result ℕ Stop)
    → (list_any unreadable (files_of start) ≡ true → ⊥) → EndsListening address path served result → EndsService unreadable start (Some address) result
listened_service unreadable start address path served result order h =
    ended_service unreadable start (Some address) result order (listened_reading (files_of start) address path served result h) (listened_status address path served result h)

-- behind one that wasn't
pub stopped_service : (unreadable : Text → Bool) (start : Start) (address : Option Text) (stop : Stop) → StopsReading (files_of start) address stop
    → (list_any unreadable (files_of start) ≡ true → IsUnreadAmong (up_to_unreadable unreadable (files_of start)) stop) → EndsService unreadable start address (Err stop)
stopped_service unreadable start address stop reading order = record { reading = reading; order = order; status = tt }

-- ---- connections side by side
pub served_so : (serves : Serving) (reads writes more others : List Moved) (r end : Result (Unit {0}) Outage) → reads ≡ [] → writes ≡ [] → r ≡ end → serves reads writes r more others → AreServedSo serves end
served_so serves reads writes more others r end none unwritten same h = (more, others, rw (none, unwritten, same) at h)

-- ---- a connection on standard input and output
-- what ends a connection before it begins
pub unbegun_run : (stop : Stop) (server : Server) (reads writes : List Transfer) → IsRefusedStart server stop → EndsRun server reads writes (Err stop) reads writes
unbegun_run (CannotRead name) server reads writes h = (refl, refl)
unbegun_run (Refused f) (Ok ks) reads writes h = refused_run (Ok ks) reads writes f (λ other. absurd (other h))
unbegun_run (Refused f) (Err g) reads writes h = refused_run (Err g) reads writes f (λ other. ap Err (h other))
unbegun_run (Words e) server reads writes h = absurd h
unbegun_run NotText server reads writes h = absurd h
unbegun_run CannotWrite server reads writes h = absurd h
unbegun_run (CannotListen a) server reads writes h = absurd h
unbegun_run CannotAccept server reads writes h = absurd h
unbegun_run (CannotLog path) server reads writes h = absurd h
unbegun_run (TooManyConnections most) server reads writes h = absurd h
unbegun_run Told server reads writes h = absurd h
unbegun_run (Store s) server reads writes h = absurd h
