-- Registries are judged by what their files hold.
use Rattle.std.proofs.Common.{◌≡◌, ◌≢◌, ℕ, List, Vec, Option, Some, None, Result, Ok, Err, sym, subst, inl, inr}
use Rattle.std.specs.Prelude.{IfSome, IfErr, option_map}
use Rattle.std.specs.Global.{Global}
use Rattle.definitions.specs.Batches.{library_of}
use Rattle.definitions.specs.Faults as meaning
use Rattle.definitions.specs.Patterns.{regular_search}
use Rattle.definitions.specs.Schemas.{Document}
use Rattle.definitions.specs.Services.{KeyedRegistry}
use Rattle.definitions.specs.Values.{Text}
use Rattle.faults.specs.View.{fault_view}
use Rattle.faults.specs.declared.Fault.{Fault}
use Rattle.faults.specs.declared.Fault.TheVariants.{NoRoom}
use Rattle.command_line.specs.Calls.{Start}
use Rattle.http_front.specs.Libraries.{OnLibraryOf}
use Rattle.http_front.specs.Servers.{server_of}
use Rattle.tenant_hub.specs.RefusedServers.{given_library}
use Rattle.http_front.proofs.Libraries.{any_library, each_library}
use Rattle.http_front.proofs.Refused.{is_no_room}
use Rattle.service_forms.specs.declared.service.Sources.{Sources}
use Rattle.service_forms.specs.declared.stop.Stop.{Stop}
use Rattle.service_forms.specs.declared.stop.Stop.TheVariants.{Words, NotText, CannotRead, Refused, CannotWrite, CannotListen, CannotAccept, CannotLog, Told, TooManyConnections, Store}
use Rattle.service_forms.specs.Services.{HoldsLibrary, HoldsSources, IsRefusedStart, OnLibrary, OnServer, OnServerIn, Server, batch_of}
use Rattle.service_forms.specs.Stops.{IsUnreadAmong}

at_text : (P : Text → Type 0) (read : Text) (known : Option Text) → IfSome known (λ text. read ≡ text) → P read → IfSome known P
at_text P read None h p = tt
at_text P read (Some text) h p = subst P h p

on_library : (files : Text → Option Text) (path : Option Text) (bytes : Option (Vec ℕ Global)) (P : Result (List Document) meaning.Fault → Type 0)
    → HoldsLibrary files path bytes → OnLibraryOf (option_map (λ b. b.items) bytes) P → OnLibrary files path P
on_library files None None P h p = p
on_library files None (Some bytes) P h p = absurd h
on_library files (Some path) None P h p = absurd h
on_library files (Some path) (Some bytes) P h p = at_text (λ batch. OnLibraryOf (Some batch) P) bytes.items (files path) h p

-- what holds of the server that was read
pub on_server : (files : Text → Option Text) (start : Start) (sources : Sources) (P : Server → Type 0)
    → HoldsSources files start sources → OnServerIn sources start.cache P → OnServer files start P
on_server files start sources P h p =
    at_text (λ tenants. OnLibrary files start.library (λ library. P (server_of tenants start.cache library))) sources.tenants.items (files start.tenants) h.0
    (on_library files start.library sources.library (λ library. P (server_of sources.tenants.items start.cache library)) h.1 p)

-- what follows for each server follows for the one of what was read
pub each_server : (sources : Sources) (capacity : ℕ) (P Q : Server → Type 0) → ((s : Server) → P s → Q s)
    → OnServerIn sources capacity P → OnServerIn sources capacity Q
each_server sources capacity P Q f h =
    let server = λ (library : Result (List Document) meaning.Fault). server_of sources.tenants.items capacity library in
    each_library (batch_of sources) (λ l. P (server l)) (λ l. Q (server l)) (λ l p. f (server l) p) h

pub all_known : (P Q : Text → Type 0) (known : Option Text) → ((text : Text) → P text → Q text) → IfSome known P → IfSome known Q
all_known P Q None f p = tt
all_known P Q (Some text) f p = f text p

all_libraries : (files : Text → Option Text) (path : Option Text) (P Q : Result (List Document) meaning.Fault → Type 0)
    → ((l : Result (List Document) meaning.Fault) → P l → Q l) → OnLibrary files path P → OnLibrary files path Q
all_libraries files None P Q f p = f _ p
all_libraries files (Some path) P Q f p =
    all_known (λ batch. OnLibraryOf (Some batch) P) (λ batch. OnLibraryOf (Some batch) Q) (files path) (λ batch h. each_library (Some batch) P Q f h) p

-- what follows for each server follows for the one that files give
pub on_servers : (files : Text → Option Text) (start : Start) (P Q : Server → Type 0) → ((s : Server) → P s → Q s) → OnServer files start P → OnServer files start Q
on_servers files start P Q f p =
    all_known (λ tenants. OnLibrary files start.library (λ library. P (server_of tenants start.cache library)))
    (λ tenants. OnLibrary files start.library (λ library. Q (server_of tenants start.cache library)))
    (files start.tenants)
    (λ tenants h. all_libraries files start.library (λ library. P (server_of tenants start.cache library)) (λ library. Q (server_of tenants start.cache library)) (λ library q. f (server_of tenants start.cache library) q) h)
    p

known : (P : Text → Type 0) (o : Option Text) → ((text : Text) → P text) → IfSome o P
known P None f = tt
known P (Some text) f = f text

libraries : (files : Text → Option Text) (path : Option Text) (P : Result (List Document) meaning.Fault → Type 0)
    → ((l : Result (List Document) meaning.Fault) → P l) → OnLibrary files path P
libraries files None P f = f _
libraries files (Some path) P f = known (λ batch. OnLibraryOf (Some batch) P) (files path) (λ batch. inl (f (library_of regular_search batch)))

-- what holds of each server holds of the one that files give
pub every_server : (files : Text → Option Text) (start : Start) (P : Server → Type 0) → ((server : Server) → P server) → OnServer files start P
every_server files start P f =
    known (λ tenants. OnLibrary files start.library (λ library. P (server_of tenants start.cache library))) (files start.tenants)
    (λ tenants. libraries files start.library (λ library. P (server_of tenants start.cache library)) (λ library. f (server_of tenants start.cache library)))

-- ---- a start that is refused
-- where a file could not be read
pub unread_start : (names : List Text) (server : Server) (stop : Stop) → IsUnreadAmong names stop → IsRefusedStart server stop
unread_start names server (Words e) h = absurd h
unread_start names server NotText h = absurd h
unread_start names server (CannotRead name) h = tt
unread_start names (Ok ks) (Refused f) h = h
unread_start names (Err g) (Refused f) h = λ other. absurd (other h)
unread_start names server CannotWrite h = absurd h
unread_start names server (CannotListen a) h = absurd h
unread_start names server CannotAccept h = absurd h
unread_start names server (CannotLog path) h = absurd h
unread_start names server Told h = absurd h
unread_start names server (TooManyConnections most) h = absurd h
unread_start names server (Store s) h = absurd h

-- where the registries are refused
refused_alike : (f : Fault) (server : Server) → server ≡ Err (fault_view f) → IsRefusedStart server (Refused f)
refused_alike f (Ok ks) e = absurd (cc e)
refused_alike f (Err g) e = λ other. cc e

lacking : (f : Fault) (server : Server) → f ≡ NoRoom → IsRefusedStart server (Refused f)
lacking f (Ok ks) e = e
lacking f (Err g) e = λ other. absurd (other e)

pub refused_start : (f : Fault) (sources : Sources) (capacity : ℕ) → (f ≢ NoRoom → OnServerIn sources capacity (λ server. server ≡ Err (fault_view f)))
    → OnServerIn sources capacity (λ server. IsRefusedStart server (Refused f))
refused_start f sources capacity why = elim (is_no_room f) [
  | inl e ↦ any_library (batch_of sources) (λ l. IsRefusedStart (server_of sources.tenants.items capacity l) (Refused f)) (lacking f _ e)
  | inr other ↦ each_server sources capacity (λ server. server ≡ Err (fault_view f)) (λ server. IsRefusedStart server (Refused f)) (refused_alike f) (why other)
]

-- made, or refused, over the same texts
pub made_over : (t u : Text) (a b : Option Text) (capacity : ℕ) (ks : List KeyedRegistry) → t ≡ u → a ≡ b
    → server_of t capacity (given_library a) ≡ Ok ks → OnLibraryOf b (λ l. server_of u capacity l ≡ Ok ks)
made_over t u a b capacity ks e k h =
    any_library b (λ l. server_of u capacity l ≡ Ok ks) (subst (λ o. server_of u capacity (given_library o) ≡ Ok ks) k (subst (λ x. server_of x capacity (given_library a) ≡ Ok ks) e h))

pub refused_over : (T : Type 0) (t u : Text) (a b : Option Text) (capacity : ℕ) (r : Result T Fault) → t ≡ u → a ≡ b
    → IfErr r (λ f. f ≢ NoRoom → OnLibraryOf a (λ l. server_of t capacity l ≡ Err (fault_view f)))
    → IfErr r (λ f. f ≢ NoRoom → OnLibraryOf b (λ l. server_of u capacity l ≡ Err (fault_view f)))
refused_over T t u a b capacity r e k h =
    subst (λ o. IfErr r (λ f. f ≢ NoRoom → OnLibraryOf o (λ l. server_of u capacity l ≡ Err (fault_view f)))) k
    (subst (λ x. IfErr r (λ f. f ≢ NoRoom → OnLibraryOf a (λ l. server_of x capacity l ≡ Err (fault_view f)))) e h)
