use Rattle.value_order.specs.Searched.{has_value}
use Rattle.value_order.proofs.Searching.{same_values}
use Rattle.value_order.proofs.sorted_values.SortedValues.of.Goals as goal

pub returns : goal.returns
unfolding has_value
returns c = λ v. same_values c.args.values.now c.in_ok-sorted.field-0.items v c.in_ok-sorted.ensures
