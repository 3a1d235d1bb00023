-- Rows in their order: what stands in a list after a row is put at its place.
use Rattle.std.proofs.Common.{◌≡◌, ◌⊎◌, ◌++◌, Bool, List, [], ◌∷◌, map, filter, Contains, Ordering, Less, Equal, Greater, sym, refl, ap, ◌∙◌, subst, inl, inr}
use Rattle.std.proofs.lemmas.Cmp.{then_total, tied_back}
use Rattle.std.proofs.lemmas.List.Elements.{Contains-append_cases, Contains-append_right}
use Rattle.std.specs.Cmp.{IsTotalOrder}
use Rattle.std.specs.Cmp.Lexicographic.{slice_cmp, on_texts}
use Rattle.std.specs.List.{AllByRecursion}
use Rattle.std.specs.List.Sorted.{IsStrictlySortedBy}
use Rattle.std.specs.Ordering.{match_ordering, nat_cmp, ordering_then}
use Rattle.definition_laws.proofs.JoinedDocuments.{tie_at}
use Rattle.definition_laws.proofs.Membership.{nothing_in, is_first, is_later, first_or_later}
use Rattle.definition_laws.proofs.PlacedDocuments.{tied}
use Rattle.definition_laws.proofs.Placing.{inserted, ascending, first_below, from_inserted, in_inserted, kept_ascending, same_ascending}
use Rattle.stored_rows.specs.Rows.{Ascend, Row, row_cmp, with_row}

pub row_order : IsTotalOrder row_cmp
row_order = then_total (on_texts (λ r. r.tenant)) (on_texts (λ r. r.uri))

-- ---- as the general words have it
abbrev itself : Row → Row
itself r = r

map_itself : (rows : List Row) → map itself rows ≡ rows
map_itself [] = refl
map_itself (r ∷ rs) = ap (λ l. r ∷ l) (map_itself rs)

as_inserted : (r : Row) (rows : List Row) → inserted row_cmp itself r rows ≡ with_row r rows
as_inserted r [] = refl
as_inserted r (s ∷ ss) = ap (λ l. match_ordering (row_cmp r s) (r ∷ s ∷ ss) (r ∷ ss) (s ∷ l)) (as_inserted r ss)

sorted_rows : (rows : List Row) → Ascend rows → IsStrictlySortedBy row_cmp (map itself rows)
sorted_rows rows up = subst (IsStrictlySortedBy row_cmp) (sym (map_itself rows)) up

-- ---- what ties
then_equal : (a b : Ordering) → ordering_then a b ≡ Equal → (a ≡ Equal) × (b ≡ Equal)
then_equal Less b e = cc
then_equal Equal b e = (refl, e)
then_equal Greater b e = cc

pub tied_rows : (r s : Row) → row_cmp r s ≡ Equal → (r.tenant ≡ s.tenant) × (r.uri ≡ s.uri)
tied_rows r s e =
    let both = then_equal (slice_cmp nat_cmp r.tenant s.tenant) (slice_cmp nat_cmp r.uri s.uri) e in
    (tied r.tenant s.tenant both.0, tied r.uri s.uri both.1)

pub rows_tie : (r s : Row) → r.tenant ≡ s.tenant → r.uri ≡ s.uri → row_cmp r s ≡ Equal
rows_tie r s e f = ap (λ o. ordering_then o (slice_cmp nat_cmp r.uri s.uri)) (tie_at r.tenant s.tenant e) ∙ tie_at r.uri s.uri f

-- ---- ascending rows
pub below : (x r : Row) (xs : List Row) → Ascend (x ∷ xs) → Contains xs r → row_cmp x r ≡ Less
below x r xs up c = first_below row_cmp row_order itself x r xs (sorted_rows (x ∷ xs) up) c

pub ascend_rest : (x : Row) (xs : List Row) → Ascend (x ∷ xs) → Ascend xs
unfolding IsStrictlySortedBy
ascend_rest x xs up = up.1

pub same_rows : (xs ys : List Row) → Ascend xs → Ascend ys → ((z : Row) → Contains xs z → Contains ys z) → ((z : Row) → Contains ys z → Contains xs z) → xs ≡ ys
same_rows xs ys up over f g = same_ascending row_cmp row_order itself xs ys (sorted_rows xs up) (sorted_rows ys over) f g

-- one at most has a tenant and a URI
pub one_row : (rows : List Row) (r s : Row) → Ascend rows → Contains rows r → Contains rows s → row_cmp r s ≡ Equal → r ≡ s
one_row [] r s up c d tie = absurd (nothing_in r c)
one_row (x ∷ xs) r s up c d tie = elim (first_or_later x r xs c) [
  | inl here ↦ elim (first_or_later x s xs d) [
    | inl there ↦ sym here ∙ there
    | inr later ↦ absurd (unlike (sym (below x s xs up later) ∙ ap (λ y. row_cmp y s) here ∙ tie))
  ]
  | inr later ↦ elim (first_or_later x s xs d) [
    | inl there ↦ absurd (unlike (sym (below x r xs up later) ∙ ap (λ y. row_cmp y r) there ∙ tied_back row_order r s tie))
    | inr both ↦ one_row xs r s (ascend_rest x xs up) later both tie
  ]
]
  where
    unlike : Less ≡ Equal → ⊥
    unlike e = cc

-- ---- a row that is put
pub ascend_with : (r : Row) (rows : List Row) → Ascend rows → Ascend (with_row r rows)
ascend_with r rows up =
    subst (IsStrictlySortedBy row_cmp) (map_itself (inserted row_cmp itself r rows) ∙ as_inserted r rows)
    (ascending row_cmp row_order itself r rows (sorted_rows rows up))

in_with_at : (r s : Row) (ss : List Row) (o : Ordering) → Contains (with_row r ss) r → Contains (match_ordering o (r ∷ s ∷ ss) (r ∷ ss) (s ∷ with_row r ss)) r
in_with_at r s ss Less more = is_first r (s ∷ ss)
in_with_at r s ss Equal more = is_first r ss
in_with_at r s ss Greater more = is_later s r (with_row r ss) more

pub put_in : (r : Row) (rows : List Row) → Contains (with_row r rows) r
put_in r [] = is_first r []
put_in r (s ∷ ss) = in_with_at r s ss (row_cmp r s) (put_in r ss)

pub still_in : (r s : Row) (rows : List Row) → (row_cmp r s ≡ Equal → ⊥) → Contains rows s → Contains (with_row r rows) s
still_in r s rows other c = subst (λ l. Contains l s) (as_inserted r rows) (in_inserted row_cmp row_order itself r s rows other c)

pub was_in : (r s : Row) (rows : List Row) → Contains (with_row r rows) s → (r ≡ s) ⊎ Contains rows s
was_in r s rows c = from_inserted row_cmp row_order itself r s rows (subst (λ l. Contains l s) (sym (as_inserted r rows)) c)

-- the row itself, or another with another tenant or URI
abbrev pub IsPutOrOther : Row → List Row → Row → Type 0
IsPutOrOther r rows s = (r ≡ s) ⊎ (Contains rows s × (row_cmp r s ≡ Equal → ⊥))

pub put_or_other : (r s : Row) (rows : List Row) → Ascend rows → Contains (with_row r rows) s → IsPutOrOther r rows s
put_or_other r s rows up c = by (row_cmp r s) refl (was_in r s rows c)
  where
    by : (o : Ordering) → row_cmp r s ≡ o → (r ≡ s) ⊎ Contains rows s → IsPutOrOther r rows s
    by Less e (inl same) = inl same
    by Less e (inr there) = inr (there, λ tie. absurd (cc))
    by Equal e there = inl (one_row (with_row r rows) r s (ascend_with r rows up) (put_in r rows) c e)
    by Greater e (inl same) = inl same
    by Greater e (inr there) = inr (there, λ tie. absurd (cc))

-- ---- rows that are left out
pub ascend_part : (p : Row → Bool) (rows : List Row) → Ascend rows → Ascend (filter p rows)
ascend_part p rows up = subst (IsStrictlySortedBy row_cmp) (map_itself (filter p rows)) (kept_ascending row_cmp itself p rows (sorted_rows rows up))

-- ---- rows in turn
ascend_from_parts : (x : Row) (xs : List Row) → ((r : Row) → Contains xs r → row_cmp x r ≡ Less) → Ascend xs → Ascend (x ∷ xs)
unfolding IsStrictlySortedBy
ascend_from_parts x xs over up = (below_each xs over, up)
  where
    below_each : (ys : List Row) → ((r : Row) → Contains ys r → row_cmp x r ≡ Less) → AllByRecursion (λ y. row_cmp x y ≡ Less) ys
    below_each [] h = tt
    below_each (y ∷ ys) h = (h y (is_first y ys), below_each ys (λ r c. h r (is_later y r ys c)))

-- one more, above all
pub ascend_then : (rows : List Row) (r : Row) → Ascend rows → ((s : Row) → Contains rows s → row_cmp s r ≡ Less) → Ascend (rows ++ r ∷ [])
ascend_then [] r up under = ascend_from_parts r [] (λ s c. absurd (nothing_in s c)) up
ascend_then (x ∷ xs) r up under =
    ascend_from_parts x (xs ++ r ∷ []) (λ s c. elim (Contains-append_cases xs (r ∷ []) s c) [
      | inl before ↦ below x s xs up before
      | inr own ↦ elim (first_or_later r s [] own) [
        | inl same ↦ subst (λ y. row_cmp x y ≡ Less) same (under x (is_first x xs))
        | inr nowhere ↦ absurd (nothing_in s nowhere)
      ]
    ]) (ascend_then xs r (ascend_rest x xs up) (λ s c. under s (is_later x s xs c)))

-- above the last one, and so above all
pub ascend_after : (rows : List Row) (last r : Row) → Ascend (rows ++ last ∷ []) → row_cmp last r ≡ Less → Ascend ((rows ++ last ∷ []) ++ r ∷ [])
ascend_after rows last r up less = ascend_then (rows ++ last ∷ []) r up (under rows up)
  where
    under : (xs : List Row) → Ascend (xs ++ last ∷ []) → (s : Row) → Contains (xs ++ last ∷ []) s → row_cmp s r ≡ Less
    under [] sorted s c = elim (first_or_later last s [] c) [
      | inl same ↦ subst (λ y. row_cmp y r ≡ Less) same less
      | inr nowhere ↦ absurd (nothing_in s nowhere)
    ]
    under (x ∷ xs) sorted s c = elim (first_or_later x s (xs ++ last ∷ []) c) [
      | inl same ↦ subst (λ y. row_cmp y r ≡ Less) same (row_order.trans x last r (below x last (xs ++ last ∷ []) sorted (Contains-append_right xs (last ∷ []) last (is_first last []))) less)
      | inr later ↦ under xs (ascend_rest x (xs ++ last ∷ []) sorted) s later
    ]
