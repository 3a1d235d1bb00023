-- Where the turns of a way lead texts.
use Rattle.std.specs.Prelude.{List, [], ◌∷◌, Bool, if◌then◌else◌}
use Rattle.definitions.specs.Values.{Text}
use Rattle.text_numbers.specs.Places.{is_toward}
use Rattle.text_numbers.specs.declared.tree.Leaf.{Leaf}
use Rattle.text_numbers.specs.declared.tree.Turn.{Turn}

-- the turn leads the text aside
abbrev pub goes_aside : Turn → Text → Bool
goes_aside turn text = is_toward turn.position turn.bound turn.is_below text

-- where a text comes by these turns, each of which leads to the leaf beside, and to this leaf where none leads it aside
abbrev pub turned : List Turn → List (Text → Leaf) → Text → Leaf → Leaf
turned [] asides text end = end
turned (turn ∷ turns) [] text end = end
turned (turn ∷ turns) (aside ∷ asides) text end = if goes_aside turn text then aside text else turned turns asides text end
