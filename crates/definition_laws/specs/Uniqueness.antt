-- A law that a faster test of `uniqueItems` would rest on (JSON Schema 2020-12 Validation, 6.4.3).
use Rattle.std.specs.Prelude.{◌≡◌, ◌||◌, List, [], ◌∷◌, Bool, false}
use Rattle.std.specs.Cmp.{IsTotalOrder}
use Rattle.std.specs.List.Sorted.{IsPermutation, IsSorted}
use Rattle.std.specs.Ordering.{is_eq}
use Rattle.std.specs.declared.cmp.Ordering.{Ordering}
use Rattle.definitions.specs.Values.{Value, same}
use Rattle.definitions.specs.Lists.{has_repeat}

-- some two neighbours are the same
abbrev pub has_same_neighbours : List Value → Bool
has_same_neighbours [] = false
has_same_neighbours (v ∷ []) = false
has_same_neighbours (v ∷ w ∷ vs) = same v w || has_same_neighbours (w ∷ vs)

-- in a list that is sorted by any total order whose equality is equality of values, repeats are neighbours
abbrev pub SortedRepeatsAreNeighbours : Type 0
SortedRepeatsAreNeighbours =
    (cmp : Value → Value → Ordering) → IsTotalOrder cmp → ((v w : Value) → same v w ≡ is_eq (cmp v w))
    → (vs ws : List Value) → IsPermutation vs ws → IsSorted cmp ws → has_repeat same vs ≡ has_same_neighbours ws
