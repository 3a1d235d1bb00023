-- What a tree tells of texts.
use Rattle.std.specs.Prelude.{ℕ, ◌≡◌, ◌==◌, List, true, Some, length, slice_get, unwrap_or}
use Rattle.definitions.specs.Values.{Text}
use Rattle.text_numbers.specs.Turns.{turned}
use Rattle.text_numbers.specs.declared.tree.Leaf.{Leaf}
use Rattle.text_numbers.specs.declared.tree.Tree.{Tree, fold-Tree}
use Rattle.text_numbers.specs.declared.tree.Tree.TheOpen.{Tree-F}

-- the leaf that a text comes to, where each tree that a turn leads to is already seen as such
abbrev pub tree_step : Tree-F (Text → Leaf) → Text → Leaf
tree_step tree text = turned tree.turns.items tree.asides.items text tree.end

-- the leaf that a text comes to
abbrev pub leaf_of : Tree → Text → Leaf
leaf_of = fold-Tree (Text → Leaf) tree_step

-- the leaf of numbers of one text
abbrev pub only_leaf : List ℕ → Leaf
only_leaf numbers = record { number = unwrap_or (slice_get numbers 0) 0; only = length numbers == 1 }

-- each text of these numbers is led to the number of one that is the same, and where it is the only one, to its own
pub record Tells (leads : Text → Leaf) (texts : List Text) (numbers : List ℕ) : Type 0 where
  pub found : (text : Text) (a i : ℕ) → slice_get numbers a ≡ Some i → slice_get texts i ≡ Some text
      → slice_get texts (leads text).number ≡ Some text
  pub only : (text : Text) (a i : ℕ) → slice_get numbers a ≡ Some i → slice_get texts i ≡ Some text
      → (leads text).only ≡ true → i ≡ (leads text).number
