-- Why files aren't opened.
use Rattle.std.specs.Prelude.{List, IsTrue, ◌≡◌, ◌<◌, ◌↔◌, ◌⊎◌, ⊤, ℕ}
use Rattle.sqlite_disk.specs.declared.Disk.{Ghosts}
use Rattle.sqlite_value.specs.Order.{Row as Entry}
use Rattle.sqlite_trees.specs.Objects.{version_rows, version_tree}
use Rattle.sqlite_trees.specs.View.{IsClean, View}
use Rattle.sqlite_store.specs.Db.{IsFile}
use Rattle.sqlite_pool.specs.File.{version_in}
use Rattle.sqlite_pool.specs.Opening.{IsBlankFile}
use Rattle.sqlite_pool.specs.Stored.{Recovers}
use Rattle.sqlite_wal.specs.Recovery.{Image, Pages}
use Rattle.document_file.specs.Files.{schema, NamesPages, StandFor}
use Rattle.document_file.specs.declared.open_faults.OpenFault.{OpenFault}
use Rattle.document_file.specs.declared.open_faults.OpenFault.TheVariants.{NoRoom, Full, Failed, Unreachable, Busy, Interrupted, Damaged, Foreign, Later}

-- no answer of such a disk is wrong
abbrev pub IsHonest : {D : Type 0} → Ghosts D → Type 0
IsHonest {D} g = (file : D) → IsTrue (g.is_clean file)

-- ---- of calls
-- memory ran out, or the disk failed or is full
abbrev pub IsMakingFault : OpenFault → Type 0
IsMakingFault NoRoom = ⊤
IsMakingFault Full = ⊤
IsMakingFault Failed = ⊤
IsMakingFault _ = ⊥

-- .. or what was read is wrong
abbrev pub IsReadingFault : OpenFault → Type 0
IsReadingFault Damaged = ⊤
IsReadingFault fault = IsMakingFault fault

-- .. or is no store of documents
abbrev pub IsRefusal : OpenFault → Type 0
IsRefusal Foreign = ⊤
IsRefusal fault = IsReadingFault fault

-- .. or the store has a version above 1
abbrev pub IsVersionFault : View → OpenFault → Type 0
IsVersionFault v Later = IsClean v → (version : ℕ) × (v.trees version_tree ≡ version_rows version) × (1 < version)
IsVersionFault v fault = IsReadingFault fault

-- ---- of files
-- the files stand for a sound store of documents, whose version is above 1
pub record StandForLater (image : Image) : Type 0 where
  pub size : ℕ
  pub pages : Pages
  pub found : Recovers size image pages
  pub sound : ∥ IsFile size schema pages ∥₁
  pub later : 1 < version_in pages

-- why files that hold a database with pages of this length aren't opened
abbrev pub IsFoundFault : Type 0 → ℕ → Image → OpenFault → Type 0
IsFoundFault honest size image Later = honest → StandForLater image
IsFoundFault honest size image Foreign = honest → (entries : List Entry) → ¬ StandFor size image entries
IsFoundFault honest size image fault = IsReadingFault fault

-- .. and it isn't what is left of a making that was cut off
abbrev pub IsSizedFault : Type 0 → ℕ → Image → OpenFault → Type 0
IsSizedFault honest size image Later = honest → StandForLater image
IsSizedFault honest size image Foreign = honest → (¬ IsBlankFile size image) × ((entries : List Entry) → ¬ StandFor size image entries)
IsSizedFault honest size image Damaged = honest → ¬ IsBlankFile size image
IsSizedFault honest size image fault = IsMakingFault fault

-- the files name no other length of a page
abbrev pub MayHavePages : Image → ℕ → Type 0
MayHavePages image size = (named : ℕ) → NamesPages image named → named ≡ size

-- why files aren't opened
abbrev pub IsOpenFault : Type 0 → Image → OpenFault → Type 0
IsOpenFault honest image fault =
    IsMakingFault fault ⊎ ((size : ℕ) × (honest → MayHavePages image size) × IsSizedFault honest size image fault)
