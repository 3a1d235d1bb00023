use Rattle.std.proofs.Common.{◌≡◌, ◌∷◌, drop}
use Rattle.definition_laws.specs.Uniqueness.{has_same_neighbours}
use Rattle.json_doc.specs.Docs.{value}
use Rattle.value_order.specs.Sorts.{values_behind}
use Rattle.value_order.proofs.uniqueness.is_some_like_the_last.Given as goal

-- what is left decides, with the last before it
abbrev pub invariant-loop-doc : goal.invariant-loop-doc
invariant-loop-doc l =
    has_same_neighbours (value l.fn.first ∷ values_behind l.rest)
    ≡ has_same_neighbours (value l.last ∷ values_behind (drop l.doc-index l.rest))
