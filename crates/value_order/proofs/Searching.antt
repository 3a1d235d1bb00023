-- What a search of sorted references finds.
use Rattle.std.proofs.Common.{◌≡◌, ℕ, List, [], ◌∷◌, false, Result, Ok, Err, is_ok, is_eq, map, length, get_or, Ordering, Less, Equal, Greater, All, sym, ap, ◌∙◌, inl, inr, arith}
use Rattle.std.proofs.lemmas.Bool.{cases_lt}
use Rattle.std.proofs.lemmas.List.Elements.{Contains-get_or}
use Rattle.std.proofs.lemmas.List.Folds.{list_any_none}
use Rattle.std.proofs.lemmas.List.Sorted.{searchable_from_sorted, list_any-IsPermutation}
use Rattle.std.specs.Borrow.{Bor}
use Rattle.std.specs.List.{list_any}
use Rattle.std.specs.List.Sorted.{IsBinarySearchResult, IsPartitionPoint, IsSearchInRange}
use Rattle.std.specs.Ordering.{ordering_reverse}
use Rattle.definitions.specs.Values.{Value, same}
use Rattle.definition_laws.proofs.Membership.{any_at}
use Rattle.lemmas.proofs.Lists.{list_any-map}
use Rattle.json_doc.specs.Docs.{value}
use Rattle.json_doc.specs.declared.doc.Doc.{Doc}
use Rattle.value_order.specs.Orders.{compared}
use Rattle.value_order.specs.Sorts.{values_behind, AreSorted, AreSortedFrom}
use Rattle.value_order.proofs.Ordered.{compared_total, tied}
use Rattle.value_order.proofs.Sorting.{behind}

same_by : (v w : Value) (o : Ordering) → compared w v ≡ o → same v w ≡ is_eq (ordering_reverse o)
same_by v w o e = tied v w ∙ ap is_eq (compared_total.antisymm v w ∙ ap ordering_reverse e)

none_beside : (refs : List (Bor Doc)) (v : Value) (i : ℕ) → IsPartitionPoint (λ (r : Bor Doc). compared (behind r) v ≡ Less) (λ (r : Bor Doc). compared (behind r) v ≡ Greater) refs i
    → All (λ (r : Bor Doc). same v (behind r) ≡ false) refs
none_beside refs v i parted k d within = elim (cases_lt k i) [
  | inl l ↦ same_by v (behind (get_or refs k d)) Less (parted.0 k d (omega arith) l)
  | inr g ↦ same_by v (behind (get_or refs k d)) Greater (parted.1 k d g within)
]

found_by : (refs : List (Bor Doc)) (v : Value) (r : Result ℕ ℕ) → AreSorted refs → IsSearchInRange r (length refs)
    → IsBinarySearchResult (λ (b : Bor Doc). compared (behind b) v) refs r → is_ok r ≡ list_any (λ (b : Bor Doc). same v (behind b)) refs
found_by [] v (Ok i) sorted within there = absurd (omega (arith, within))
found_by (b ∷ bs) v (Ok i) sorted within there =
    let one : Bor Doc = get_or (b ∷ bs) i b in
    sym (any_at (λ (c : Bor Doc). same v (behind c)) one (b ∷ bs) (Contains-get_or (b ∷ bs) i b within) (same_by v (behind one) Equal (there b)))
found_by refs v (Err i) sorted within gap =
    sym (list_any_none (λ (b : Bor Doc). same v (behind b)) refs (none_beside refs v i (gap (searchable_from_sorted compared_total behind refs v sorted))))

pub found_in : (refs : List (Bor Doc)) (v : Value) (r : Result ℕ ℕ) → AreSorted refs → IsSearchInRange r (length refs)
    → IsBinarySearchResult (λ (b : Bor Doc). compared (behind b) v) refs r → is_ok r ≡ list_any (same v) (values_behind refs)
found_in refs v r sorted within found = found_by refs v r sorted within found ∙ sym (list_any-map (same v) behind refs)

pub same_values : (ds : List Doc) (refs : List (Bor Doc)) (v : Value) → AreSortedFrom (map value ds) refs
    → list_any (same v) (values_behind refs) ≡ list_any (λ d. same v (value d)) ds
same_values ds refs v sorted =
    sym (list_any-IsPermutation (same v) (map value ds) (values_behind refs) sorted.0) ∙ list_any-map (same v) value ds
