-- Values that references lead to, and their sorting.
use Rattle.std.specs.Prelude.{List, Bool, map}
use Rattle.std.specs.Borrow.{Bor}
use Rattle.std.specs.List.Sorted.{IsPermutation, IsSortedBy}
use Rattle.std.specs.Ordering.{is_lt}
use Rattle.definitions.specs.Values.{Value}
use Rattle.json_doc.specs.Docs.{value}
use Rattle.json_doc.specs.declared.doc.Doc.{Doc}
use Rattle.value_order.specs.Orders.{compared}

abbrev pub values_behind : List (Bor Doc) → List Value
values_behind refs = map (λ r. value r.now) refs

-- the first leads to the smaller value
abbrev pub is_before : Bor Doc → Bor Doc → Bool
is_before r s = is_lt (compared (value r.now) (value s.now))

-- in the order of the values
abbrev pub AreSorted : List (Bor Doc) → Type 0
AreSorted refs = IsSortedBy is_before refs

-- to the same values, in their order
abbrev pub AreSortedFrom : List Value → List (Bor Doc) → Type 0
AreSortedFrom vs refs = IsPermutation vs (values_behind refs) × AreSorted refs
