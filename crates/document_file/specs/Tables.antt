-- The table of documents, in a store of trees.
use Rattle.std.specs.Prelude.{List, Some, false, map, ◌++◌, ◌≡◌}
use Rattle.stored_rows.specs.Rows.{Row}
use Rattle.sqlite_value.specs.Order.{Row as Entry}
use Rattle.sqlite_value.specs.Keys.{plain}
use Rattle.sqlite_trees.specs.declared.store.Shape.TheVariants.{Index}
use Rattle.sqlite_trees.specs.Tree.{Trees}
use Rattle.sqlite_trees.specs.View.{IsClean, View}
use Rattle.document_file.specs.Entries.{entry_of}

-- the first tree has its entries in the order of their columns
abbrev pub HasTable : View → Type 0
HasTable v = v.shape 0 ≡ Index plain

-- these are the documents' rows, unless a wrong answer of the disk was taken as true, or a failed call broke the transaction
abbrev pub HoldsRows : View → List Row → Type 0
HoldsRows v rows = IsClean v → v.is_broken ≡ false → v.trees 0 ≡ map entry_of rows

-- the transaction isn't broken, and an opening after a crash may find nothing but what it sees
pub record IsKept (v : View) (recovers : Trees → Type 0) : Type 0 where
  pub sound : v.is_broken ≡ false
  pub kept : (found : Trees) → recovers found → found ≡ v.trees

-- an opening after a crash may find these rows, where the disk gave no wrong answer so far
abbrev pub MayFind : View → (Trees → Type 0) → List Row → Type 0
MayFind v recovers rows = IsClean v × ((db : Trees) × recovers db × (db 0 ≡ map entry_of rows))

-- these rows were read, and the reader has the others to give
abbrev pub HasReadRows : View → List Row → Type 0
HasReadRows v rows = IsClean v → (left : List Entry) × (v.cursors 0 ≡ Some left) × (v.trees 0 ≡ map entry_of rows ++ left)
