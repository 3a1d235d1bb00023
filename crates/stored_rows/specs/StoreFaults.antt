-- How a failing store is told.
use Rattle.std.specs.Prelude.{codes}
use Rattle.definitions.specs.Values.{Text}
use Rattle.stored_rows.specs.declared.store_faults.StoreFault.{StoreFault}
use Rattle.stored_rows.specs.declared.store_faults.StoreFault.TheVariants.{NoRoom, Full, Failed, Damaged}

abbrev pub printed_text : StoreFault → Text
printed_text NoRoom = codes "no room"
printed_text Full = codes "the disk is full"
printed_text Failed = codes "the disk failed"
printed_text Damaged = codes "the file is damaged"
