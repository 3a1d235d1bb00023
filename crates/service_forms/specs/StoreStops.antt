-- Why documents aren't kept: what is printed.
use Rattle.std.specs.Prelude.{◌++◌, codes}
use Rattle.definitions.specs.Values.{Text}
use Rattle.connections.specs.declared.handlers.Unsettled.{Unsettled}
use Rattle.connections.specs.declared.handlers.Unsettled.TheVariants as unsettled
use Rattle.document_file.specs.OpenFaults as opening
use Rattle.stored_hub.specs.RefusalTexts as restoring
use Rattle.stored_rows.specs.StoreFaults as store
use Rattle.stored_rows.specs.declared.store_faults.StoreFault.TheVariants as store_fault
use Rattle.service_forms.specs.declared.store_stop.StoreStop.{StoreStop}
use Rattle.service_forms.specs.declared.store_stop.StoreStop.TheVariants as stop

-- why what was answered isn't durable
abbrev pub unsettled_text : Unsettled → Text
unsettled_text unsettled.NoRoom = store.printed_text store_fault.NoRoom
unsettled_text unsettled.Full = store.printed_text store_fault.Full
unsettled_text unsettled.Failed = store.printed_text store_fault.Failed
unsettled_text unsettled.Behind = codes "an earlier change couldn't be written"

-- .. of the file at this path
abbrev pub told_of : Text → Text → Text → Text
told_of what path why = what ++ path ++ codes ": " ++ why

abbrev pub store_text : StoreStop → Text
store_text (stop.Unopened path fault) = told_of (codes "cannot open ") path.now (opening.printed_text fault)
store_text (stop.Unrestored path refusal) = told_of (codes "cannot restore ") path.now (restoring.printed_text refusal)
store_text (stop.Unsettled path why) = told_of (codes "cannot keep the documents in ") path.now (unsettled_text why)
