-- How a check or a connection ends, with which status, and what is written of it.
use Rattle.std.proofs.Common.{◌≡◌, ◌∙◌, ℕ, List, true, Option, Some, None, Result, Ok, Err, refl, sym, ap, subst, inl, inr}
use Rattle.std.specs.Prelude.{IfSome, IsOkAnd, IsErrAnd}
use Rattle.clap.specs.Words.{kind_of}
use Rattle.clap.specs.declared.error.Error.{Error}
use Rattle.clap.specs.declared.error.kind.ErrorKind.TheVariants.{OutOfMemory}
use Rattle.definitions.specs.Values.{Text}
use Rattle.faults.specs.declared.Fault.TheVariants.{NoRoom}
use Rattle.command_line.specs.Calls.{Asked, Start}
use Rattle.command_line.specs.Calls as call
use Rattle.http_front.specs.Running.{IsRun}
use Rattle.http_front.proofs.Refused.{refused_run}
use Rattle.serving.specs.Transfers.{Transfer}
use Rattle.serving.specs.Writing.{WritesSome}
use Rattle.service_forms.specs.declared.stop.Stop.{Stop}
use Rattle.service_forms.specs.declared.stop.Stop.TheVariants.{Words, NotText, CannotRead, Refused, CannotWrite, CannotListen, CannotAccept, CannotLog, Told, TooManyConnections, Store}
use Rattle.service_forms.specs.Services.{EndsRun, OnRun, OnServer, OnStart, OnStore, RunsWith, Server}
use Rattle.service_forms.specs.Stops.{is_error, stop_by, stop_of}
use Rattle.service_forms.proofs.Judged.{all_known, every_server, on_servers}
use Rattle.schemareg.specs.Answers.{Check, EndsBy, EndsWith, OnCheck, check_of_input, check_of_texts, report_line}

-- a stop that is told on standard error leaves standard output as it was
abbrev pub IsTold : Stop → ℕ → List Transfer → List Transfer → Type 0
IsTold stop status after final = is_error stop ≡ true → (status ≡ 2) × (final ≡ after)

pub told_with : {O : Type 0} (writes : O → List Transfer) (stop : Stop) (told status : ℕ) (after final : O) → status ≡ told
    → (is_error stop ≡ true → (told ≡ 2) × (final ≡ after)) → IsTold stop status (writes after) (writes final)
told_with writes stop told status after final e h = λ error. (e ∙ (h error).0, ap writes (h error).1)

-- ---- checks
pub ended_with : (check : Check) (before after : List Transfer) (result status : ℕ) → status ≡ result → EndsBy check before (Ok result) after
    → EndsWith check before status after
ended_with check before after result status e h = inl (h.0 ∙ ap Ok (sym e), h.1)

pub stopped_with : (check : Check) (before after final : List Transfer) (stop : Stop) (status : ℕ) → IsTold stop status after final
    → EndsBy check before (Err stop) after → EndsWith check before status final
stopped_with check before after final (Refused f) status told h = inr ((told refl).0, inl ((told refl).1 ∙ h.0))
stopped_with check before after final (CannotRead name) status told h = inr ((told refl).0, inl ((told refl).1 ∙ h))
stopped_with check before after final CannotWrite status told h = inr (
  (told refl).0,
  inr (subst (λ (ts : List Transfer). IsOkAnd check.judgement (λ report. WritesSome before (report_line report) ts)) (sym (told refl).1) h),
)
stopped_with check before after final (Words e) status told h = absurd h
stopped_with check before after final NotText status told h = absurd h
stopped_with check before after final (CannotListen a) status told h = absurd h
stopped_with check before after final CannotAccept status told h = absurd h
stopped_with check before after final (CannotLog path) status told h = absurd h
stopped_with check before after final (TooManyConnections most) status told h = absurd h
stopped_with check before after final Told status told h = absurd h
stopped_with check before after final (Store s) status told h = absurd h

-- what follows for each check follows for the one that is asked for
pub on_checks : (files : Text → Option Text) (bytes : Option Text) (asked : Asked) (P Q : Check → Type 0) → ((c : Check) → P c → Q c)
    → OnCheck files bytes asked P → OnCheck files bytes asked Q
on_checks files bytes call.input P Q f h = all_known (λ b. P (check_of_input b)) (λ b. Q (check_of_input b)) bytes (λ b p. f (check_of_input b) p) h
on_checks files bytes (call.check uri schema instance) P Q f h =
    all_known (λ s. known_at P s) (λ s. known_at Q s) (files schema)
    (λ s p. all_known (λ i. P (check_of_texts uri s i)) (λ i. Q (check_of_texts uri s i)) (files instance) (λ i q. f (check_of_texts uri s i) q) p) h
  where
    known_at : (Check → Type 0) → Text → Type 0
    known_at R s = IfSome (files instance) (λ i. R (check_of_texts uri s i))
on_checks files bytes (call.check_many checks) P Q f h = tt
on_checks files bytes (call.bundle bundling) P Q f h = tt
on_checks files bytes (call.scan scanning) P Q f h = tt
on_checks files bytes (call.run start) P Q f h = tt
on_checks files bytes (call.serve start listen accept) P Q f h = tt
on_checks files bytes (call.serve_many start listen limits logging) P Q f h = tt

-- ---- connections
-- memory ran out while the words were read
pub unspelled : (e : Error) (result : Result ℕ Stop) → kind_of e ≡ OutOfMemory → IsErrAnd result (λ stop. stop ≡ stop_of e) → result ≡ Err (Refused NoRoom)
unspelled e (Ok status) k h = absurd h
unspelled e (Err stop) k h = ap Err (h ∙ ap (λ kind. stop_by kind e) k)

pub unspelled_run : (e : Error) (result : Result ℕ Stop) → kind_of e ≡ OutOfMemory → IsErrAnd result (λ stop. stop ≡ stop_of e)
    → (reads writes : List Transfer) (server : Server) → EndsRun server reads writes result reads writes
unspelled_run e (Ok status) k h reads writes server = absurd h
unspelled_run e (Err stop) k h reads writes server =
    subst (λ s. EndsRun server reads writes (Err s) reads writes) (sym (h ∙ ap (λ kind. stop_by kind e) k))
    (refused_run server reads writes NoRoom (λ other. absurd (other refl)))

pub run_ended : (server : Server) (reads writes more others : List Transfer) (result status : ℕ) → status ≡ result
    → EndsRun server reads writes (Ok result) more others → RunsWith server reads writes status more others
run_ended server reads writes more others result status e h = inl (e ∙ h.0, h.1)

pub run_stopped : (server : Server) (reads writes more others final : List Transfer) (stop : Stop) (status : ℕ) → IsTold stop status others final
    → EndsRun server reads writes (Err stop) more others → RunsWith server reads writes status more final
run_stopped server reads writes more others final (Refused f) status told h = inr (
  (told refl).0,
  inr (f, subst (λ (ts : List Transfer). IsRun server reads writes (Err f) more ts) (sym (told refl).1) h),
)
run_stopped server reads writes more others final (CannotRead name) status told h = inr ((told refl).0, inl (h.0, (told refl).1 ∙ h.1))
run_stopped server reads writes more others final (Words e) status told h = absurd h
run_stopped server reads writes more others final NotText status told h = absurd h
run_stopped server reads writes more others final CannotWrite status told h = absurd h
run_stopped server reads writes more others final (CannotListen a) status told h = absurd h
run_stopped server reads writes more others final CannotAccept status told h = absurd h
run_stopped server reads writes more others final (CannotLog path) status told h = absurd h
run_stopped server reads writes more others final (TooManyConnections most) status told h = absurd h
run_stopped server reads writes more others final Told status told h = absurd h
run_stopped server reads writes more others final (Store s) status told h = absurd h

-- what follows for each server follows for the one of a call, in memory and over a store
on_starts : (files : Text → Option Text) (start : Start) (P Q : Server → Type 0) (R S : Text → Server → Type 0) → ((s : Server) → P s → Q s)
    → ((path : Text) (s : Server) → R path s → S path s) → OnStart files start P R → OnStart files start Q S
on_starts files start P Q R S f g h = by start.store h
  where
    by : (store : Option Text) → OnStore store (OnServer files start P) (λ path. OnServer files start (λ server. R path server))
        → OnStore store (OnServer files start Q) (λ path. OnServer files start (λ server. S path server))
    by None p = on_servers files start P Q f p
    by (Some path) p = on_servers files start (λ server. R path server) (λ server. S path server) (g path) p

pub on_runs : (files : Text → Option Text) (asked : Asked) (P Q : Server → Type 0) (R S : Text → Server → Type 0) → ((s : Server) → P s → Q s)
    → ((path : Text) (s : Server) → R path s → S path s) → OnRun files asked P R → OnRun files asked Q S
on_runs files call.input P Q R S f g h = tt
on_runs files (call.check uri schema instance) P Q R S f g h = tt
on_runs files (call.check_many checks) P Q R S f g h = tt
on_runs files (call.bundle bundling) P Q R S f g h = tt
on_runs files (call.scan scanning) P Q R S f g h = tt
on_runs files (call.run start) P Q R S f g h = on_starts files start P Q R S f g h
on_runs files (call.serve start listen accept) P Q R S f g h = tt
on_runs files (call.serve_many start listen limits logging) P Q R S f g h = tt

-- what holds of each holds of that one
pub every_start : (files : Text → Option Text) (start : Start) (P : Server → Type 0) (R : Text → Server → Type 0) → ((s : Server) → P s)
    → ((path : Text) (s : Server) → R path s) → OnStart files start P R
every_start files start P R f g = by start.store
  where
    by : (store : Option Text) → OnStore store (OnServer files start P) (λ path. OnServer files start (λ server. R path server))
    by None = every_server files start P f
    by (Some path) = every_server files start (λ server. R path server) (g path)

pub every_run : (files : Text → Option Text) (asked : Asked) (P : Server → Type 0) (R : Text → Server → Type 0) → ((s : Server) → P s)
    → ((path : Text) (s : Server) → R path s) → OnRun files asked P R
every_run files call.input P R f g = tt
every_run files (call.check uri schema instance) P R f g = tt
every_run files (call.check_many checks) P R f g = tt
every_run files (call.bundle bundling) P R f g = tt
every_run files (call.scan scanning) P R f g = tt
every_run files (call.run start) P R f g = every_start files start P R f g
every_run files (call.serve start listen accept) P R f g = tt
every_run files (call.serve_many start listen limits logging) P R f g = tt
