-- Values that are searched.
use Rattle.std.specs.Prelude.{Bool}
use Rattle.std.specs.List.{list_any}
use Rattle.definitions.specs.Values.{Value, same}
use Rattle.value_order.specs.Sorts.{values_behind}
use Rattle.value_order.specs.declared.sorted_values.SortedValues.{SortedValues}

-- one of them is equal to this one
unfoldable pub has_value : SortedValues → Value → Bool
has_value s v = list_any (same v) (values_behind s.docs.items)
