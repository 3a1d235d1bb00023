-- Why files aren't opened, from call to call.
use Rattle.std.proofs.Common.{ap, if◌then◌else◌, refl, sym, Bool, IsTrue, List, None, Option, [], ℕ, ◌<◌, ◌∙◌, ◌≡◌, ◌∷◌}
use Rattle.sqlite_disk.specs.declared.Disk.{Ghosts}
use Rattle.sqlite_value.specs.Order.{column, Row as Entry}
use Rattle.sqlite_trees.specs.Objects.{number_in, version_rows, version_tree}
use Rattle.sqlite_trees.specs.Tree.{no_trees}
use Rattle.sqlite_trees.specs.View.{IsClean, View}
use Rattle.sqlite_store.specs.Db.{IsFile}
use Rattle.sqlite_store.specs.FileStore.{schema_of, state, view, IsReady}
use Rattle.sqlite_store.specs.Listing.{file_trees}
use Rattle.sqlite_store.specs.Saved.{kept_schema}
use Rattle.sqlite_store.specs.Slots.{IsStoredFile}
use Rattle.sqlite_store.specs.Unopened.{files_of, state_of}
use Rattle.sqlite_store.specs.declared.catalog.Wanted.{Wanted}
use Rattle.sqlite_store.specs.declared.saved.Saved.{Saved}
use Rattle.sqlite_store.specs.declared.store.FileStore.{FileStore}
use Rattle.sqlite_store.specs.declared.store.open.Unopened.{Unopened}
use Rattle.sqlite_pool.specs.File.{version_in}
use Rattle.sqlite_pool.specs.Opening.{IsBlankFile}
use Rattle.sqlite_pool.specs.Pool as pool
use Rattle.sqlite_pool.specs.Stored.{Recovers}
use Rattle.sqlite_wal.specs.Reads.{AreClean}
use Rattle.sqlite_wal.specs.Recovery.{Image, Pages}
use Rattle.std.proofs.Math.Logic.{∥∥₁_map}
use Rattle.document_file.specs.Files.{schema, StandFor}
use Rattle.document_file.specs.Refusals.{IsFoundFault, IsHonest, IsMakingFault, IsReadingFault, IsRefusal, IsSizedFault, IsVersionFault, StandForLater}
use Rattle.document_file.specs.declared.open_faults.OpenFault.{OpenFault}
use Rattle.document_file.specs.declared.open_faults.OpenFault.TheVariants.{NoRoom, Full, Failed, Unreachable, Busy, Interrupted, Damaged, Foreign, Later}
use Rattle.document_file.proofs.Found.{clean_files, doubtless, undoubted}

pub making_refused : (fault : OpenFault) → IsMakingFault fault → IsRefusal fault
making_refused NoRoom it = tt
making_refused Full it = tt
making_refused Failed it = tt
making_refused Unreachable it = absurd it
making_refused Busy it = absurd it
making_refused Interrupted it = absurd it
making_refused Damaged it = tt
making_refused Foreign it = tt
making_refused Later it = absurd it

pub making_sized : (honest : Type 0) (size : ℕ) (image : Image) (fault : OpenFault) → IsMakingFault fault → IsSizedFault honest size image fault
making_sized honest size image NoRoom it = tt
making_sized honest size image Full it = tt
making_sized honest size image Failed it = tt
making_sized honest size image Unreachable it = absurd it
making_sized honest size image Busy it = absurd it
making_sized honest size image Interrupted it = absurd it
making_sized honest size image Damaged it = absurd it
making_sized honest size image Foreign it = absurd it
making_sized honest size image Later it = absurd it

pub found_sized : (honest : Type 0) (size : ℕ) (image : Image) (fault : OpenFault) → IsFoundFault honest size image fault → (honest → ¬ IsBlankFile size image)
    → IsSizedFault honest size image fault
found_sized honest size image NoRoom it begun = tt
found_sized honest size image Full it begun = tt
found_sized honest size image Failed it begun = tt
found_sized honest size image Unreachable it begun = absurd it
found_sized honest size image Busy it begun = absurd it
found_sized honest size image Interrupted it begun = absurd it
found_sized honest size image Damaged it begun = begun
found_sized honest size image Foreign it begun = λ h. (begun h, it h)
found_sized honest size image Later it begun = it

pub reading_found : (honest : Type 0) (size : ℕ) (image : Image) (fault : OpenFault) → IsReadingFault fault → IsFoundFault honest size image fault
reading_found honest size image NoRoom it = tt
reading_found honest size image Full it = tt
reading_found honest size image Failed it = tt
reading_found honest size image Unreachable it = absurd it
reading_found honest size image Busy it = absurd it
reading_found honest size image Interrupted it = absurd it
reading_found honest size image Damaged it = tt
reading_found honest size image Foreign it = absurd it
reading_found honest size image Later it = absurd it

pub refused_found : (honest : Type 0) (size : ℕ) (image : Image) (fault : OpenFault) → IsRefusal fault → (honest → (entries : List Entry) → ¬ StandFor size image entries)
    → IsFoundFault honest size image fault
refused_found honest size image NoRoom it none = tt
refused_found honest size image Full it none = tt
refused_found honest size image Failed it none = tt
refused_found honest size image Unreachable it none = absurd it
refused_found honest size image Busy it none = absurd it
refused_found honest size image Interrupted it none = absurd it
refused_found honest size image Damaged it none = tt
refused_found honest size image Foreign it none = none
refused_found honest size image Later it none = absurd it

pub versioned_found : (honest : Type 0) (size : ℕ) (image : Image) (v : View) (fault : OpenFault) → IsVersionFault v fault → (honest → IsClean v)
    → (honest → (version : ℕ) → v.trees version_tree ≡ version_rows version → 1 < version → StandForLater image) → IsFoundFault honest size image fault
versioned_found honest size image v NoRoom it clean later = tt
versioned_found honest size image v Full it clean later = tt
versioned_found honest size image v Failed it clean later = tt
versioned_found honest size image v Unreachable it clean later = absurd it
versioned_found honest size image v Busy it clean later = absurd it
versioned_found honest size image v Interrupted it clean later = absurd it
versioned_found honest size image v Damaged it clean later = tt
versioned_found honest size image v Foreign it clean later = absurd it
versioned_found honest size image v Later it clean later = λ h. let told = it (clean h) in later h told.0 told.1 told.2

-- ---- a store of a later version
abbrev number_told : List Entry → ℕ
number_told [] = 0
number_told (row ∷ rows) = number_in (column row 1)

later_pages : (saved : Option Saved) (listed : List Wanted) (other size : ℕ) (image : Image) (pages : Pages) (honest : Bool) (version : ℕ)
    → saved ≡ None → listed ≡ schema → other ≡ size → Recovers size image pages → ∥ IsFile other (kept_schema saved listed) pages ∥₁ → IsTrue honest
    → (if honest then file_trees other (kept_schema saved listed) pages else no_trees) version_tree ≡ version_rows version → 1 < version → StandForLater image
later_pages saved listed other size image pages honest version none is sized recovers sound clean same late =
    let told : version_in pages ≡ version = ap number_told (rw clean at same) in
    record {
      size = size;
      pages = pages;
      found = recovers;
      sound = rw (none, is, sized) at sound;
      later = rw told late;
    }

pub honest_files : {D : Type 0} (g : Ghosts D) → IsHonest g → (log db : D) → AreClean g log db
honest_files g honest log db = rw (honest log, honest db) refl

module _ {D : Type 0} {g : Ghosts D} where
  pub honest_unopened : IsHonest g → (it : Unopened D g) → IsTrue (state_of it).is_clean
  honest_unopened honest it = rw (clean_files it) (honest_files g honest (files_of it).0 (files_of it).1)

  pub honest_store : IsHonest g → (store : FileStore D g) → IsClean (view store)
  unfolding pool.state pool.files
  honest_store honest store = doubtless (state store).is_clean (honest_files g honest (pool.files store.pool).0 (pool.files store.pool).1)

  pub later_stands : (store : FileStore D g) (size : ℕ) (image : Image) → IsReady store → schema_of store ≡ schema → (state store).page_size ≡ size
      → Recovers size image (state store).committed → IsClean (view store) → (version : ℕ) → (view store).trees version_tree ≡ version_rows version → 1 < version
      → StandForLater image
  later_stands store size image ready schema_is size_is recovers clean version told late =
      later_pages store.saved (schema_of store) (state store).page_size size image (state store).committed (state store).is_clean version
      ready.unaltered schema_is size_is recovers
      (∥∥₁_map (store.stored (ready.is_open clean)) (λ (s : IsStoredFile _ _ _ _ _). s.ours.file))
      (undoubted (state store).is_clean clean) (sym (ap (λ f. f version_tree) ready.clean) ∙ told) late
