-- What a file of documents holds.
use Rattle.std.specs.Prelude.{codes, List, [], ◌∷◌, ◌≡◌, ◌⊎◌, ℕ}
use Rattle.sqlite_value.specs.declared.value.Value.TheVariants.{Text}
use Rattle.sqlite_value.specs.Order.{Row as Entry}
use Rattle.sqlite_value.specs.Keys.{plain}
use Rattle.sqlite_trees.specs.declared.store.Shape.TheVariants.{Index}
use Rattle.sqlite_store.specs.declared.catalog.Wanted.{Wanted}
use Rattle.sqlite_store.specs.Db.{IsFile}
use Rattle.sqlite_store.specs.Listing.{file_trees}
use Rattle.sqlite_pool.specs.Stored.{Recovers}
use Rattle.sqlite_wal.specs.Format.{be32}
use Rattle.sqlite_wal.specs.PageSize.{size_in_file, IsPageSize}
use Rattle.sqlite_wal.specs.Recovery.{Image, IsIgnored, Pages}

-- one table, in the order of its key
abbrev pub schema : List Wanted
schema =
    record {
      shape = Index plain;
      reals = 0;
      row =
          Text (codes "table") ∷ Text (codes "document") ∷ Text (codes "document")
          ∷ Text (codes "CREATE TABLE document (tenant TEXT NOT NULL, uri TEXT NOT NULL, base TEXT, text TEXT NOT NULL, PRIMARY KEY (tenant, uri)) WITHOUT ROWID")
          ∷ [];
    } ∷ []

-- the log and the file stand for a sound database with that table alone, and these are its entries
pub record StandFor (size : ℕ) (image : Image) (entries : List Entry) : Type 0 where
  pub pages : Pages
  pub found : Recovers size image pages
  pub sound : ∥ IsFile size schema pages ∥₁
  pub same : entries ≡ file_trees size schema pages 0

-- these are the entries in the files, whose pages have this length, or there were none
abbrev pub AreFoundAt : ℕ → Image → List Entry → Type 0
AreFoundAt size image entries =
    StandFor size image entries
    ⊎ ((entries ≡ []) × ((others : List Entry) → ¬ StandFor size image others))

-- the length of a page that the log tells, or the file where there is no log
pub record NamesPages (image : Image) (size : ℕ) : Type 0 where
  pub valid : IsPageSize size
  pub by_log : ¬ IsIgnored image.log → size ≡ be32 image.log 8
  pub by_file : IsIgnored image.log → size ≡ size_in_file image.db

-- these are the entries in the files, or there were none in them
abbrev pub AreFoundIn : Image → List Entry → Type 0
AreFoundIn image entries =
    ((size : ℕ) × StandFor size image entries)
    ⊎ ((entries ≡ []) × ((size : ℕ) → NamesPages image size → (others : List Entry) → ¬ StandFor size image others))
