-- What a tree tells, one level at a time.
use Rattle.std.proofs.Common.{◌≡◌, ◌∙◌, ℕ, Option, map, ap, sym}
use Rattle.std.specs.Prelude.{option_and_then, slice_get}
use Rattle.std.specs.List.{position_from}
use Rattle.std.specs.Option.{option_map_or}
use Rattle.definitions.specs.Values.{Text}
use Rattle.text_numbers.proofs.Telling.{turned_at}
use Rattle.text_numbers.specs.Turns.{goes_aside, turned}
use Rattle.text_numbers.specs.Trees.{leaf_of, tree_step}
use Rattle.text_numbers.specs.declared.tree.Leaf.{Leaf}
use Rattle.text_numbers.specs.declared.tree.Tree.{Tree}
use Rattle.text_numbers.specs.declared.tree.Tree.TheViews.{out-Tree, roll-Tree}
use Rattle.text_numbers.specs.declared.tree.Tree.TheFolds.{fold-roll-Tree, fold_out-Tree}
use Rattle.text_numbers.specs.declared.tree.Tree.TheOpen.{Tree-F}

pub leaf_of-out : (tree : Tree) (text : Text)
    → leaf_of tree text ≡ turned (out-Tree tree).turns.items (map leaf_of (out-Tree tree).asides.items) text (out-Tree tree).end
leaf_of-out tree text = ap (λ leads. leads text) (fold_out-Tree (Text → Leaf) tree_step tree)

pub leaf_of-roll : (tree : Tree-F Tree) (text : Text)
    → leaf_of (roll-Tree tree) text ≡ turned tree.turns.items (map leaf_of tree.asides.items) text tree.end
leaf_of-roll tree text = ap (λ leads. leads text) (fold-roll-Tree (Text → Leaf) tree_step tree)

-- by the first turn that leads the text aside
pub leaf_of-at : (tree : Tree) (text : Text) (o : Option ℕ) → o ≡ position_from (λ turn. goes_aside turn text) 0 (out-Tree tree).turns.items
    → option_map_or (λ leads. leads text) (option_and_then (slice_get (map leaf_of (out-Tree tree).asides.items)) o) (out-Tree tree).end ≡ leaf_of tree text
leaf_of-at tree text o is =
    ap (λ p. option_map_or (λ leads. leads text) (option_and_then (slice_get (map leaf_of (out-Tree tree).asides.items)) p) (out-Tree tree).end) is
    ∙ sym (turned_at (out-Tree tree).turns.items (map leaf_of (out-Tree tree).asides.items) text (out-Tree tree).end)
    ∙ sym (leaf_of-out tree text)
