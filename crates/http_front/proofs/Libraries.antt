-- What holds of a server over a library.
use Rattle.std.proofs.Common.{◌≡◌, ◌≢◌, ℕ, List, Option, Some, None, Result, Ok, Err, inl, inr, ap, sym, ◌∙◌}
use Rattle.std.specs.Prelude.{IfErr}
use Rattle.definitions.specs.Batches.{library_of}
use Rattle.definitions.specs.Faults as meaning
use Rattle.definitions.specs.Patterns.{regular_search}
use Rattle.definitions.specs.Schemas.{Document}
use Rattle.definitions.specs.Tenants.{Tenant, file_tenants, unless_refused}
use Rattle.definitions.specs.Values.{Text}
use Rattle.faults.specs.View.{fault_view}
use Rattle.faults.specs.declared.Fault.{Fault}
use Rattle.faults.specs.declared.Fault.TheVariants.{NoRoom}
use Rattle.tenant_hub.specs.RefusedServers.{IsRefusedServer, given_library}
use Rattle.http_front.specs.Libraries.{OnLibraryOf}
use Rattle.http_front.specs.Servers.{server_of, server_for}

-- what holds of each library holds of the one that is given
pub any_library : (library : Option Text) (P : Result (List Document) meaning.Fault → Type 0) → P (given_library library) → OnLibraryOf library P
any_library None P p = p
any_library (Some batch) P p = inl p

-- what follows for each library follows for the one that is given
pub each_library : (library : Option Text) (P Q : Result (List Document) meaning.Fault → Type 0)
    → ((l : Result (List Document) meaning.Fault) → P l → Q l) → OnLibraryOf library P → OnLibraryOf library Q
each_library None P Q f p = f _ p
each_library (Some batch) P Q f (inl p) = inl (f (library_of regular_search batch) p)
each_library (Some batch) P Q f (inr p) = inr (p.0, f (Err meaning.bad_pattern) p.1)

-- tenants that can't be read are refused first
pub unread_server : (file : Text) (capacity : ℕ) (f : meaning.Fault) (library : Option Text) → file_tenants file ≡ Err f
    → OnLibraryOf library (λ l. server_of file capacity l ≡ Err f)
unread_server file capacity f library e =
    any_library library (λ l. server_of file capacity l ≡ Err f) (ap (λ ts. server_for ts capacity (given_library library)) e)

pub read_server : (file : Text) (capacity : ℕ) (ts : List Tenant) (f : meaning.Fault) (library : Option Text) → file_tenants file ≡ Ok ts
    → IsRefusedServer ts capacity library f → OnLibraryOf library (λ l. server_of file capacity l ≡ Err f)
read_server file capacity ts f library e (inl r) =
    any_library library (λ l. server_of file capacity l ≡ Err f) (ap (λ rs. server_for rs capacity (given_library library)) e ∙ r)
read_server file capacity ts f None e (inr r) = absurd (r.2)
read_server file capacity ts f (Some batch) e (inr r) = inr (
  r.2,
  ap (λ rs. server_for rs capacity (Err meaning.bad_pattern)) e ∙ (ap (λ o. unless_refused o ts (Err meaning.bad_pattern)) r.1 ∙ ap Err (sym r.0)),
)

pub over_refused : (T : Type 0) (file : Text) (capacity : ℕ) (ts : List Tenant) (library : Option Text) (r : Result T Fault) → file_tenants file ≡ Ok ts
    → IfErr r (λ f. f ≢ NoRoom → IsRefusedServer ts capacity library (fault_view f))
    → IfErr r (λ f. f ≢ NoRoom → OnLibraryOf library (λ l. server_of file capacity l ≡ Err (fault_view f)))
over_refused T file capacity ts library (Ok made) e h = tt
over_refused T file capacity ts library (Err f) e h = λ other. read_server file capacity ts (fault_view f) library e (h other)
