-- References sorted by the values that they lead to.
use Rattle.std.proofs.Common.{◌≡◌, ◌+◌, ◌<◌, List, [], ◌∷◌, length, get_or, is_lt, ap₂, ◌∙◌, arith, IsSorted}
use Rattle.std.proofs.lemmas.List.{get_or-map, length-map}
use Rattle.std.proofs.lemmas.List.Sorted.{ranks_by}
use Rattle.std.specs.Borrow.{Bor}
use Rattle.std.specs.Cmp.{IsStrictWeakOrder}
use Rattle.definitions.specs.Values.{Value, same}
use Rattle.definitions.specs.Lists.{has_repeat}
use Rattle.definition_laws.specs.Uniqueness.{has_same_neighbours}
use Rattle.definition_laws.proofs.NeighbourRepeats.{neighbours}
use Rattle.json_doc.specs.Docs.{value}
use Rattle.json_doc.specs.declared.doc.Doc.{Doc}
use Rattle.value_order.specs.Orders.{compared}
use Rattle.value_order.specs.Sorts.{values_behind, is_before, AreSorted, AreSortedFrom}
use Rattle.value_order.proofs.Ordered.{compared_total, tied}

abbrev pub behind : Bor Doc → Value
behind r = value r.now

pub before_ranks : IsStrictWeakOrder is_before
before_ranks = ranks_by compared_total behind

values_sorted : (refs : List (Bor Doc)) → AreSorted refs → IsSorted compared (values_behind refs)
values_sorted [] sorted k d l h = absurd (omega arith)
values_sorted (r ∷ refs) sorted k d l h =
    let short : k + 1 < length (r ∷ refs) = omega (arith, length-map (r ∷ refs) behind) in
    let later : get_or (values_behind (r ∷ refs)) (k + 1) d ≡ behind (get_or (r ∷ refs) (k + 1) r) = get_or-map behind (r ∷ refs) (k + 1) r d short in
    let sooner : get_or (values_behind (r ∷ refs)) k d ≡ behind (get_or (r ∷ refs) k r) = get_or-map behind (r ∷ refs) k r d (omega arith) in
    ap₂ (λ v w. is_lt (compared v w)) later sooner ∙ sorted k r l short

pub repeats_as_neighbours : (vs : List Value) (refs : List (Bor Doc)) → AreSortedFrom vs refs → has_repeat same vs ≡ has_same_neighbours (values_behind refs)
repeats_as_neighbours vs refs sorted = neighbours compared compared_total tied vs (values_behind refs) sorted.0 (values_sorted refs sorted.1)
