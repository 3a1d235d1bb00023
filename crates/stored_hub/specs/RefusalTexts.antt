-- How it is told why a store isn't opened.
use Rattle.std.specs.Prelude.{◌+◌, ◌++◌, ℕ, codes, decimal, string_bytes}
use Rattle.definitions.specs.Values.{Text}
use Rattle.faults.specs.View.{fault_view}
use Rattle.faults.specs.View as fault
use Rattle.stored_rows.specs.StoreFaults as store
use Rattle.stored_rows.specs.declared.store_faults.StoreFault.TheVariants as store_fault
use Rattle.stored_hub.specs.declared.refusals.OpenRefusal.{OpenRefusal}
use Rattle.stored_hub.specs.declared.refusals.OpenRefusal.TheVariants.{NoRoom, Store, SameDigest, Row}
use Rattle.stored_hub.specs.declared.refusals.RowRefusal.{RowRefusal}
use Rattle.stored_hub.specs.declared.refusals.RowRefusal.TheVariants.{OutOfOrder, UnknownTenant, Refused, Altered}

-- what is told of the tenant at this place, which is counted from 1
abbrev pub tenant_text : ℕ → Text → Text
tenant_text place told = codes "tenant " ++ (decimal (place + 1) ++ (codes ", " ++ told))

-- .. of the row with this URI
abbrev pub row_text : Text → RowRefusal → Text
row_text uri OutOfOrder = uri ++ codes ": the row stands twice"
row_text uri UnknownTenant = uri ++ codes ": no tenant has the key of its row"
row_text uri (Refused place f) = tenant_text place (uri ++ (codes ": " ++ fault.printed_text (fault_view f)))
row_text uri (Altered place) = tenant_text place (uri ++ codes ": the row isn't as it was written")

-- what `{}` prints
abbrev pub printed_text : OpenRefusal → Text
printed_text NoRoom = store.printed_text store_fault.NoRoom
printed_text (Store f) = store.printed_text f
printed_text SameDigest = codes "two tenants' keys have one digest"
printed_text (Row uri why) = row_text (string_bytes uri) why
