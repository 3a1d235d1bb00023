-- Why a store isn't opened.
use Rattle.std.specs.Prelude.{◌≡◌, ◌≢◌, ℕ, true, false, Contains, List, Some, ⊤, map, slice_get, string_bytes}
use Rattle.std.specs.List.{list_any}
use Rattle.std.specs.declared.cmp.Ordering.TheVariants.{Less}
use Rattle.definitions.specs.Lists.{has_repeat}
use Rattle.definitions.specs.Registries.{Reply, refused}
use Rattle.definitions.specs.Services.{KeyedRegistry}
use Rattle.definitions.specs.Values.{Text, same_text}
use Rattle.faults.specs.View.{fault_view}
use Rattle.stored_rows.specs.Restoring.{emptied}
use Rattle.stored_rows.specs.Rows.{digest, row_cmp, rows_of}
use Rattle.stored_rows.specs.Rows as rows
use Rattle.stored_hub.specs.declared.refusals.OpenRefusal.{OpenRefusal}
use Rattle.stored_hub.specs.declared.refusals.OpenRefusal.TheVariants.{NoRoom, Store, SameDigest, Row}
use Rattle.stored_hub.specs.declared.refusals.RowRefusal.{RowRefusal}
use Rattle.stored_hub.specs.declared.refusals.RowRefusal.TheVariants.{OutOfOrder, UnknownTenant, Refused, Altered}
use Rattle.tenant_hub.specs.PutBack.{IsRestored}

abbrev pub digests_of : List KeyedRegistry → List Text
digests_of ks = map (λ k. digest k.key) ks

-- the tenant at this place is the one of the row
abbrev pub IsOwner : List KeyedRegistry → ℕ → rows.Row → Type 0
IsOwner ks place r = slice_get (digests_of ks) place ≡ Some r.tenant

-- putting the row's texts back, by a key that has its digest, is answered so
abbrev pub IsAnsweredBack : List KeyedRegistry → rows.Row → Reply → Type 0
IsAnsweredBack ks r reply =
    (key : Text) × (ls : List KeyedRegistry) × (digest key ≡ r.tenant) × IsRestored ks key r.base r.text reply ls

-- why a row isn't put back into these registries; it is out of order where it doesn't stand behind one of theirs
abbrev pub IsRefusedRow : List KeyedRegistry → rows.Row → RowRefusal → Type 0
IsRefusedRow ks r OutOfOrder = (last : rows.Row) × Contains (rows_of ks) last × (row_cmp last r ≢ Less)
IsRefusedRow ks r UnknownTenant = list_any (same_text r.tenant) (digests_of ks) ≡ false
IsRefusedRow ks r (Refused place f) = IsOwner ks place r × IsAnsweredBack ks r (refused (fault_view f))
IsRefusedRow ks r (Altered place) = IsOwner ks place r × ((reply : Reply) × IsAnsweredBack ks r reply)

-- why a store isn't opened over these registries: of a row, why it isn't put back beside those before it
abbrev pub IsRefusedOpening : List KeyedRegistry → OpenRefusal → Type 0
IsRefusedOpening ks NoRoom = ⊤
IsRefusedOpening ks (Store f) = ⊤
IsRefusedOpening ks SameDigest = has_repeat same_text (digests_of ks) ≡ true
IsRefusedOpening ks (Row uri why) =
    (ms : List KeyedRegistry) × (r : rows.Row) × (emptied ms ≡ emptied ks) × (r.uri ≡ string_bytes uri) × IsRefusedRow ms r why
