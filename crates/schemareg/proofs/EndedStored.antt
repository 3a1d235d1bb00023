-- How a call ends that serves connections over a store, and with which status.
use Rattle.std.proofs.Common.{◌≡◌, ◌∙◌, ℕ, List, true, Option, Result, Ok, Err, refl, sym, subst, inl, inr, arith}
use Rattle.definitions.specs.Values.{Text}
use Rattle.clap.specs.declared.error.Error.{Error}
use Rattle.faults.specs.declared.Fault.TheVariants.{NoRoom}
use Rattle.command_line.specs.Calls.{Asked}
use Rattle.command_line.specs.Calls as call
use Rattle.serving.specs.Transfers.{Transfer}
use Rattle.serving.specs.declared.failure.Failure.{Failure}
use Rattle.serving.specs.declared.failure.Failure.TheVariants as failure
use Rattle.stored_rows.specs.Rows.{Row}
use Rattle.service_forms.specs.declared.stop.Stop.{Stop}
use Rattle.service_forms.specs.declared.stop.Stop.TheVariants.{Words, NotText, CannotRead, Refused, CannotWrite, CannotListen, CannotAccept, CannotLog, Told, TooManyConnections, Store}
use Rattle.service_forms.specs.Endings.{StopsReading}
use Rattle.service_forms.specs.Services.{EndsServing, EndsServingMany, IsRefusal, Server}
use Rattle.service_forms.specs.Stops.{is_error}
use Rattle.service_forms.specs.Stored.{EndsAsked, EndsStoredMany, EndsStoredRun, EndsStoredServing, IsEndOf, IsUnserved, RunsStoredWith}
use Rattle.schemareg.proofs.Ended.{IsTold, every_start}

-- ---- one connection
end_status : (path : Text) (served : Result (Unit {0}) Failure) (status : ℕ) → IsEndOf path served (Ok status) → status ≡ 0
end_status path (Ok u) status h = h
end_status path (Err (failure.Fault f)) status h = absurd h
end_status path (Err (failure.Unsettled why)) status h = absurd h

pub stored_ended : {D : Type 0} (path : Text) (recovers : D → List Row → Type 0) (server : Server) (reads writes more others : List Transfer) (result status : ℕ) → status ≡ result
    → EndsStoredRun path recovers server reads writes (Ok result) more others → RunsStoredWith path recovers server reads writes status more others
stored_ended path recovers server reads writes more others result status e h = elim h [
  | inl x ↦ absurd x.0
  | inr x ↦ let none = end_status path x.holds.served result x.holds.ended in
      inl (e ∙ none, subst (λ n. EndsStoredRun path recovers server reads writes (Ok n) more others) none (inr x))
]

unserved_words : (path : Text) (server : Server) (e : Error) → IsUnserved path server (Words e) → ⊥
unserved_words path server e h = elim h [
  | inl x ↦ x
  | inr x ↦ cc x.holds.1
]

end_words : (path : Text) (served : Result (Unit {0}) Failure) (e : Error) → IsEndOf path served (Err (Words e)) → ⊥
end_words path (Ok u) e h = h
end_words path (Err (failure.Fault f)) e h = h
end_words path (Err (failure.Unsettled why)) e h = h

-- neither help nor the version ends it
stored_error : {D : Type 0} (path : Text) (recovers : D → List Row → Type 0) (server : Server) (reads writes more others : List Transfer) (stop : Stop)
    → EndsStoredRun path recovers server reads writes (Err stop) more others → is_error stop ≡ true
stored_error path recovers server reads writes more others (Words e) h = elim h [
  | inl x ↦ absurd (unserved_words path server e x.0)
  | inr x ↦ absurd (end_words path x.holds.served e x.holds.ended)
]
stored_error path recovers server reads writes more others NotText h = refl
stored_error path recovers server reads writes more others (CannotRead name) h = refl
stored_error path recovers server reads writes more others (Refused f) h = refl
stored_error path recovers server reads writes more others CannotWrite h = refl
stored_error path recovers server reads writes more others (CannotListen a) h = refl
stored_error path recovers server reads writes more others CannotAccept h = refl
stored_error path recovers server reads writes more others (CannotLog log) h = refl
stored_error path recovers server reads writes more others Told h = refl
stored_error path recovers server reads writes more others (TooManyConnections most) h = refl
stored_error path recovers server reads writes more others (Store s) h = refl

pub stored_stopped : {D : Type 0} (path : Text) (recovers : D → List Row → Type 0) (server : Server) (reads writes more others final : List Transfer) (stop : Stop) (status : ℕ)
    → IsTold stop status others final → EndsStoredRun path recovers server reads writes (Err stop) more others
    → RunsStoredWith path recovers server reads writes status more final
stored_stopped path recovers server reads writes more others final stop status told h =
    let printed = told (stored_error path recovers server reads writes more others stop h) in
    inr (printed.0, (stop, subst (λ ts. EndsStoredRun path recovers server reads writes (Err stop) more ts) (sym printed.1) h))

-- ---- memory ran out while the words were read
lacking : (server : Server) → IsRefusal server NoRoom
lacking (Ok ks) = refl
lacking (Err g) = λ other. absurd (other refl)

pub unspelled_stored : {D : Type 0} (path : Text) (recovers : D → List Row → Type 0) (result : Result ℕ Stop) → result ≡ Err (Refused NoRoom)
    → (reads writes : List Transfer) (server : Server) → EndsStoredRun path recovers server reads writes result reads writes
unspelled_stored path recovers result e reads writes server =
    subst (λ r. EndsStoredRun path recovers server reads writes r reads writes) (sym e) (inl (inl (lacking server), refl, refl))

lacking_asked : {D : Type 0} (recovers : D → List Row → Type 0) (files : Text → Option Text) (asked : Asked) → EndsAsked recovers files asked (Err (Refused NoRoom))
lacking_asked recovers files call.input = tt
lacking_asked recovers files (call.check uri schema instance) = tt
lacking_asked recovers files (call.check_many checks) = tt
lacking_asked recovers files (call.bundle bundling) = tt
lacking_asked recovers files (call.scan scanning) = tt
lacking_asked recovers files (call.run start) = tt
lacking_asked recovers files (call.serve start listen accept) =
    every_start files start (λ server. EndsServing listen accept server (Err (Refused NoRoom))) (λ path server. EndsStoredServing path recovers listen accept server (Err (Refused NoRoom)))
    (λ server. inl (lacking server)) (λ path server. inl (inl (lacking server)))
lacking_asked recovers files (call.serve_many start listen limits logging) =
    every_start files start (λ server. EndsServingMany listen server (Err (Refused NoRoom))) (λ path server. EndsStoredMany path recovers listen server (Err (Refused NoRoom)))
    (λ server. inl (lacking server)) (λ path server. inl (inl (lacking server)))

pub unspelled_asked : {D : Type 0} (recovers : D → List Row → Type 0) (files : Text → Option Text) (asked : Asked) (result : Result ℕ Stop) → result ≡ Err (Refused NoRoom)
    → EndsAsked recovers files asked result
unspelled_asked recovers files asked result e = subst (λ r. EndsAsked recovers files asked r) (sym e) (lacking_asked recovers files asked)

-- ---- the status 0
reading_error : (names : List Text) (address : Option Text) (stop : Stop) → StopsReading names address stop → is_error stop ≡ true
reading_error names address (Words e) h = absurd h
reading_error names address NotText h = refl
reading_error names address (CannotRead name) h = refl
reading_error names address (Refused f) h = refl
reading_error names address CannotWrite h = refl
reading_error names address (CannotListen a) h = refl
reading_error names address CannotAccept h = refl
reading_error names address (CannotLog log) h = refl
reading_error names address Told h = refl
reading_error names address (TooManyConnections most) h = refl
reading_error names address (Store s) h = refl

-- isn't that of a call that was stopped
pub not_stopped : (names : List Text) (address : Option Text) (stop : Stop) (status : ℕ) (P : Type 0) → StopsReading names address stop
    → (is_error stop ≡ true → status ≡ 2) → status ≡ 0 → P
not_stopped names address stop status P reading told zero = absurd (omega (arith, told (reading_error names address stop reading), zero))
