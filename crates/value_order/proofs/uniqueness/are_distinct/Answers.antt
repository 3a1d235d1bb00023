use Rattle.std.proofs.Common.{not, sym, ap, ◌∙◌}
use Rattle.definition_laws.specs.Uniqueness.{has_same_neighbours}
use Rattle.value_order.specs.Sorts.{values_behind}
use Rattle.value_order.proofs.Sorting.{repeats_as_neighbours}
use Rattle.value_order.proofs.uniqueness.are_distinct.Goals as goal

pub returns : goal.returns
returns c =
    ap not (c.has_same_neighbours.ensures
    ∙ ap (λ docs. has_same_neighbours (values_behind docs)) c.as_slice.ensures.value
    ∙ sym (repeats_as_neighbours _ _ c.in_ok-docs.ensures))
