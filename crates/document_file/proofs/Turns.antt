-- What a look for the entry with a key finds, and what its drop leaves.
use Rattle.std.proofs.Common.{ap, refl, sym, true, Err, List, Ok, OnOk, Result, Some, ◌∙◌, ◌∷◌, ◌≡◌}
use Rattle.std.proofs.lemmas.Option.{same_Some}
use Rattle.sqlite_value.specs.Order.{Row as Entry}
use Rattle.sqlite_value.specs.Keys.{plain}
use Rattle.sqlite_trees.specs.declared.store.Direction.TheVariants.{Forward}
use Rattle.sqlite_trees.specs.Tree.{from_key, insert_entry, order_of, remove_entry, sought, IsIndex}
use Rattle.sqlite_trees.specs.View.{with_cursor, IsOrdered, SetsTree, View}
use Rattle.document_file.specs.Entries.{has_key, with_entry, without_key, HaveOneAt}
use Rattle.document_file.specs.Tables.{HasTable}
use Rattle.document_file.proofs.Seeks.{drops, nothing_left, IsApart}

-- what an answer says follows from what another one says
pub on_ok : {X E P Q : Type 0} (r : Result X E) → (P → Q) → OnOk r P → OnOk r Q
on_ok (Ok x) f p = f p
on_ok (Err e) f p = tt

-- a cursor was placed, and moved
pub record Looks (key : Entry) (old mid new : View) : Type 0 where
  pub table : HasTable old
  pub placed : mid ≡ with_cursor old 0 (sought (order_of (old.shape 0)) Forward key (old.trees 0))
  pub moved : new ≡ record mid { cursors = new.cursors }

same_trees : {key : Entry} {old mid new : View} → Looks key old mid new → new.trees ≡ old.trees
same_trees looks = ap (λ v. v.trees) looks.moved ∙ ap (λ v. v.trees) looks.placed

module _ {key : Entry} {old mid new : View} (looks : Looks key old mid new) where
  at_key : (found : List Entry) → mid.cursors 0 ≡ Some found → found ≡ from_key plain key (old.trees 0)
  at_key found left = same_Some _ _ (sym left ∙ ap (λ v. v.cursors 0) looks.placed) ∙ rw looks.table refl

  pub ends : IsOrdered old.shape old.trees → (found : List Entry) → mid.cursors 0 ≡ Some found → IsApart key found → new.trees 0 ≡ without_key key (old.trees 0)
  ends ordered found left apart =
      let sorted : IsIndex plain (old.trees 0) = rw looks.table at (ordered 0) in
      ap (λ f. f 0) (same_trees looks) ∙ sym (nothing_left key (old.trees 0) sorted (rw (at_key found left) at apart))

  pub dropped : {after : View} {row : Entry} (left : List Entry) → mid.cursors 0 ≡ Some (row ∷ left) → has_key key row ≡ true → HasTable new
      → SetsTree new after 0 (remove_entry (order_of (new.shape 0)) row) → HaveOneAt key (old.trees 0) → after.trees 0 ≡ without_key key (old.trees 0)
  dropped {after} {row} left is has table sets one =
      let rows : after.trees 0 ≡ remove_entry plain row (old.trees 0) = ap (λ v. v.trees 0) sets.is ∙ rw (table, same_trees looks) refl in
      rows ∙ drops key row (old.trees 0) left (sym (at_key (row ∷ left) is)) has one

-- an entry was put where those with its key were dropped
pub inserted : {mid new : View} (key entry : Entry) (es : List Entry) → HasTable mid → SetsTree mid new 0 (insert_entry (order_of (mid.shape 0)) entry)
    → mid.trees 0 ≡ without_key key es → new.trees 0 ≡ with_entry key entry es
inserted key entry es table sets rows = ap (λ v. v.trees 0) sets.is ∙ rw (table, rows) refl
