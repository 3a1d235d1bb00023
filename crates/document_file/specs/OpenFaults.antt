-- How it is told why no file of documents is opened.
use Rattle.std.specs.Prelude.{codes}
use Rattle.definitions.specs.Values.{Text}
use Rattle.stored_rows.specs.StoreFaults as store
use Rattle.stored_rows.specs.declared.store_faults.StoreFault.TheVariants as fault
use Rattle.document_file.specs.declared.open_faults.OpenFault.{OpenFault}
use Rattle.document_file.specs.declared.open_faults.OpenFault.TheVariants.{NoRoom, Full, Failed, Unreachable, Busy, Interrupted, Damaged, Foreign, Later}

-- what `{}` prints
abbrev pub printed_text : OpenFault → Text
printed_text NoRoom = store.printed_text fault.NoRoom
printed_text Full = store.printed_text fault.Full
printed_text Failed = store.printed_text fault.Failed
printed_text Unreachable = codes "the file can't be opened or made"
printed_text Busy = codes "another process has the file open"
printed_text Interrupted = codes "the file has a rollback journal: open it with sqlite3 first"
printed_text Damaged = store.printed_text fault.Damaged
printed_text Foreign = codes "the file is no store of documents"
printed_text Later = codes "the file is of a later version"
