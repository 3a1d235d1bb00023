-- Why no store is made.
use Rattle.std.specs.Prelude.{IsTrue}
use Rattle.sqlite_disk.specs.declared.Disk.{Ghosts}
use Rattle.sqlite_store.specs.declared.store.open.Unopened.{Unopened}
use Rattle.sqlite_store.specs.Unopened.{state_of}
use Rattle.document_file.specs.Refusals.{IsMakingFault}
use Rattle.document_file.specs.declared.making.Unmade.{Unmade}
use Rattle.document_file.specs.declared.making.Unmade.TheVariants.{Failed, Refused}

module _ {D : Type 0} {g : Ghosts D} where
  -- where the files are refused, they are as clean as they were
  abbrev pub IsUnmade : Unopened D g → Unmade D g → Type 0
  IsUnmade files (Failed fault) = IsMakingFault fault
  IsUnmade files (Refused left) = IsTrue (state_of left).is_clean → IsTrue (state_of files).is_clean
