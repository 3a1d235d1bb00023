-- What a binary search finds among elements that ascend by a key.
use Rattle.std.proofs.Common.{◌≡◌, ℕ, zero, suc, ◌<◌, ◌≤◌, List, [], ◌∷◌, map, length, get_or, Contains, Ordering, Less, Equal, Greater, Result, Ok, Err, IfOk, IfErr, false, Some, None, is_none, sym, refl, ap, ◌∙◌, subst, inl, inr, arith}
use Rattle.std.proofs.lemmas.List.{length-map}
use Rattle.std.proofs.lemmas.Bool.{false_from_ne_true}
use Rattle.std.proofs.lemmas.Cmp.{nat_list_cmp_total, tied_itself}
use Rattle.std.proofs.lemmas.List.Elements.{All-from_recursion, All-contains, Contains-get_or}
use Rattle.std.specs.Cmp.{IsTotalOrder}
use Rattle.std.specs.Cmp.Lexicographic.{slice_cmp, bytes_decides}
use Rattle.std.specs.Ordering.{nat_cmp, ordering_index, ordering_reverse, match_ordering}
use Rattle.std.specs.List.{insert, HoldsAt}
use Rattle.std.specs.List.Sorted.{IsStrictlySortedBy, IsSearchInRange, IsBinarySearchResult, IsNonDecreasingBy}
use Rattle.definitions.specs.Values.{Text, same_text}
use Rattle.definitions.specs.Lists.{has_repeat}
use Rattle.definitions.specs.Schemas.{Document}
use Rattle.definitions.specs.Documents.{document_of, Ascend}
use Rattle.definition_laws.proofs.Membership.{nothing_in, first_or_later, in_map, one_of, found_there, found_some, found_none}
use Rattle.definition_laws.proofs.Placing.{inserted, ascending_distinct}
use Rattle.definition_laws.proofs.PlacedDocuments.{key_of, as_inserted, tied}
use Rattle.definition_laws.proofs.ReachedSets.{same_text-back}
use Rattle.std.specs.Global.{Global}
use Rattle.std.specs.declared.rc.Rc.{Rc}
use Rattle.schema_scan.specs.CompiledDocuments.{compiled_view}
use Rattle.schema_scan.specs.declared.compiled.Compiled.{Compiled}
use Rattle.linker.specs.SharedDocuments.{shared_documents}
use Rattle.linker.specs.Positions.{StandsAt, IsGap}

less_is_equal : Less ≡ Equal → ⊥
less_is_equal e = cc

greater_is_equal : Greater ≡ Equal → ⊥
greater_is_equal e = cc

module _ {X Y K : Type 0} (cmp : K → K → Ordering) (order : IsTotalOrder cmp) (f : X → Y) (key : Y → K) where
  -- the answers to a search for u
  abbrev at_key : K → X → Ordering
  at_key u x = cmp (key (f x)) u

  from_first : (a u : K) (o p : Ordering) → cmp a u ≡ p → ordering_index Less ≤ ordering_index o → (o ≡ Less → p ≡ Less) → (o ≡ Equal → p ≡ Less) → ordering_index p ≤ ordering_index o
  from_first a u Less p e l less equal = subst (λ q. ordering_index q ≤ 0) (sym (less refl)) (omega arith)
  from_first a u Equal p e l less equal = subst (λ q. ordering_index q ≤ 1) (sym (equal refl)) (omega arith)
  from_first a u Greater Less e l less equal = omega arith
  from_first a u Greater Equal e l less equal = omega arith
  from_first a u Greater Greater e l less equal = omega arith

  tie_back : (b u : K) → cmp b u ≡ Equal → cmp u b ≡ Equal
  tie_back b u e = order.antisymm u b ∙ ap ordering_reverse e

  -- what comes first is answered no later
  rise : (a b u : K) → cmp a b ≡ Less → ordering_index (cmp a u) ≤ ordering_index (cmp b u)
  rise a b u below =
      from_first a u (cmp b u) (cmp a u) refl (omega arith)
      (λ e. order.trans a b u below e)
      (λ e. order.antisymm a u ∙ ap ordering_reverse (order.congr u b a (tie_back b u e) ∙ order.antisymm b a ∙ ap ordering_reverse below))

  first_below : (x : X) (xs : List X) → IsStrictlySortedBy cmp (map key (map f (x ∷ xs))) → (y : X) → Contains xs y → cmp (key (f x)) (key (f y)) ≡ Less
  unfolding IsStrictlySortedBy
  first_below x xs h y c =
      All-contains (λ k. cmp (key (f x)) k ≡ Less) (map key (map f xs)) (key (f y)) (All-from_recursion (λ k. cmp (key (f x)) k ≡ Less) (map key (map f xs)) h.0)
      (in_map key (f y) (map f xs) (in_map f y xs c))

  tail_sorted : (x : X) (xs : List X) → IsStrictlySortedBy cmp (map key (map f (x ∷ xs))) → IsStrictlySortedBy cmp (map key (map f xs))
  unfolding IsStrictlySortedBy
  tail_sorted x xs h = h.1

  answers_rise : (u : K) (xs : List X) → IsStrictlySortedBy cmp (map key (map f xs)) → IsNonDecreasingBy (λ x. ordering_index (at_key u x)) xs
  answers_rise u [] h i j d le l = absurd (omega (arith, l))
  answers_rise u (x ∷ xs) h zero zero d le l = omega arith
  answers_rise u (x ∷ xs) h zero (suc j) d le l = rise (key (f x)) (key (f (get_or xs j d))) u (first_below x xs h (get_or xs j d) (Contains-get_or xs j d (omega arith)))
  answers_rise u (x ∷ xs) h (suc i) zero d le l = absurd (omega arith)
  answers_rise u (x ∷ xs) h (suc i) (suc j) d le l = answers_rise u xs (tail_sorted x xs h) i j d (omega arith) (omega arith)

  -- a place between what is below u and what is above
  record IsCutAt (u : K) (xs : List X) (at : ℕ) : Type 0 where
    inside : at ≤ length xs
    below : (k : ℕ) (d : X) → k < at → at_key u (get_or xs k d) ≡ Less
    above : (k : ℕ) (d : X) → at ≤ k → k < length xs → at_key u (get_or xs k d) ≡ Greater

  cut_tail : (u : K) (x : X) (xs : List X) (at : ℕ) → IsCutAt u (x ∷ xs) (suc at) → IsCutAt u xs at
  cut_tail u x xs at c = record {
    inside = omega (arith, c.inside);
    below = λ k d l. c.below (suc k) d (omega arith);
    above = λ k d le l. c.above (suc k) d (omega arith) (omega arith);
  }

  cut_all : (u : K) (x : X) (xs : List X) → IsCutAt u (x ∷ xs) zero → IsCutAt u xs zero
  cut_all u x xs c = record {
    inside = omega arith;
    below = λ k d l. absurd (omega arith);
    above = λ k d le l. c.above (suc k) d (omega arith) (omega arith);
  }

  put_there : (y : Y) (xs : List X) (at : ℕ) → IsCutAt (key y) xs at → insert (map f xs) at y ≡ inserted cmp key y (map f xs)
  put_there y [] zero c = refl
  put_there y [] (suc at) c = absurd (omega (arith, c.inside))
  put_there y (x ∷ xs) zero c =
      ap (λ o. match_ordering o (y ∷ f x ∷ map f xs) (y ∷ map f xs) (f x ∷ inserted cmp key y (map f xs)))
      (sym (order.antisymm (key y) (key (f x)) ∙ ap ordering_reverse (c.above zero x (omega arith) (omega arith))))
  put_there y (x ∷ xs) (suc at) c =
      ap (λ zs. f x ∷ zs) (put_there y xs at (cut_tail (key y) x xs at c))
      ∙ ap (λ o. match_ordering o (y ∷ f x ∷ map f xs) (y ∷ map f xs) (f x ∷ inserted cmp key y (map f xs)))
      (sym (order.antisymm (key y) (key (f x)) ∙ ap ordering_reverse (c.below zero x (omega arith))))

  none_there : (u : K) (xs : List X) (at : ℕ) → IsCutAt u xs at → (y : Y) → Contains (map f xs) y → cmp (key y) u ≡ Equal → ⊥
  none_there u [] at c y in_there e = nothing_in y in_there
  none_there u (x ∷ xs) zero c y in_there e = elim (first_or_later (f x) y (map f xs) in_there) [
    | inl same ↦ greater_is_equal (sym (c.above zero x (omega arith) (omega arith)) ∙ ap (λ z. cmp (key z) u) same ∙ e)
    | inr later ↦ none_there u xs zero (cut_all u x xs c) y later e
  ]
  none_there u (x ∷ xs) (suc at) c y in_there e = elim (first_or_later (f x) y (map f xs) in_there) [
    | inl same ↦ less_is_equal (sym (c.below zero x (omega arith)) ∙ ap (λ z. cmp (key z) u) same ∙ e)
    | inr later ↦ none_there u xs at (cut_tail u x xs at c) y later e
  ]

  found_cut : (u : K) (xs : List X) (at : ℕ) → IsStrictlySortedBy cmp (map key (map f xs)) → IsSearchInRange (Err at) (length xs) → IsBinarySearchResult (at_key u) xs (Err at) → IsCutAt u xs at
  found_cut u xs at h within parted = record {
    inside = within;
    below = λ k d l. (parted (answers_rise u xs h)).0 k d (omega arith) l;
    above = λ k d le l. (parted (answers_rise u xs h)).1 k d le l;
  }

-- ---- documents
module _ {X : Type 0} (f : X → Document) (xs : List X) (uri : Text) (h : IsStrictlySortedBy (slice_cmp nat_cmp) (map key_of (map f xs))) where
  as_gap : (at : ℕ) → IsCutAt (slice_cmp nat_cmp) nat_list_cmp_total f key_of uri xs at → IsGap (map f xs) uri at
  as_gap at c = record {
    inside = omega (arith, c.inside, length-map xs f);
    put = λ d named. put_there (slice_cmp nat_cmp) nat_list_cmp_total f key_of d xs at (subst (λ u. IsCutAt (slice_cmp nat_cmp) nat_list_cmp_total f key_of u xs at) (sym named) c) ∙ as_inserted d (map f xs);
    absent = λ d in_there named. none_there (slice_cmp nat_cmp) nat_list_cmp_total f key_of uri xs at c d in_there (ap (λ t. slice_cmp nat_cmp t uri) named ∙ tied_itself nat_list_cmp_total uri);
  }

  named_at : (at : ℕ) → at < length xs → HoldsAt (λ x. slice_cmp nat_cmp (f x).canonical uri ≡ Equal) xs at → StandsAt (map f xs) uri at
  named_at at l e = record {
    inside = omega (arith, l, length-map xs f);
    named = λ d. named_in xs at d l e;
  }
    where
      named_in : (ys : List X) (k : ℕ) (d : Document) → k < length ys → HoldsAt (λ x. slice_cmp nat_cmp (f x).canonical uri ≡ Equal) ys k → (get_or (map f ys) k d).canonical ≡ uri
      named_in [] k d l e = absurd (omega (arith, l))
      named_in (y ∷ ys) zero d l e = tied (f y).canonical uri (e y)
      named_in (y ∷ ys) (suc k) d l e = named_in ys k d (omega arith) e

  pub searched : (r : Result ℕ ℕ) → IsSearchInRange r (length xs) → IsBinarySearchResult (λ x. slice_cmp nat_cmp (f x).canonical uri) xs r
      → IfOk r (StandsAt (map f xs) uri) × IfErr r (IsGap (map f xs) uri)
  searched (Ok at) within equal = (named_at at within equal, tt)
  searched (Err at) within parted = (tt, as_gap at (found_cut (slice_cmp nat_cmp) nat_list_cmp_total f key_of uri xs at h within parted))

-- ---- the document with a canonical URI
pub absent_unfound : (ds : List Document) (uri : Text) (at : ℕ) → IsGap ds uri at → document_of ds uri ≡ None
absent_unfound ds uri at gap =
    found_none (λ d. same_text uri d.canonical) ds (λ d c. false_from_ne_true (same_text uri d.canonical) (λ same. gap.absent d c (sym ((bytes_decides uri d.canonical).0 same))))

pub ascend_distinct : (ds : List Document) → Ascend ds → has_repeat same_text (map key_of ds) ≡ false
ascend_distinct ds ascend =
    ascending_distinct (slice_cmp nat_cmp) same_text
    (λ t u e. ap (slice_cmp nat_cmp t) (sym ((bytes_decides t u).0 e)) ∙ tied_itself nat_list_cmp_total t)
    (map key_of ds) ascend

pub standing_found : (ds : List Document) (uri : Text) (at : ℕ) → Ascend ds → StandsAt ds uri at → (d : Document) → document_of ds uri ≡ Some (get_or ds at d)
standing_found ds uri at ascend stands d =
    let some_one = found_some (λ (e : Document). same_text uri e.canonical) (get_or ds at d) ds (Contains-get_or ds at d stands.inside) ((bytes_decides uri (get_or ds at d).canonical).1 (sym (stands.named d))) in
    let found = found_there (λ (e : Document). same_text uri e.canonical) ds some_one.0 some_one.1 in
    some_one.1
    ∙ ap Some (one_of same_text key_of same_text-back ds (ascend_distinct ds ascend) some_one.0 (get_or ds at d) found.0 (Contains-get_or ds at d stands.inside)
    ((bytes_decides some_one.0.canonical (get_or ds at d).canonical).1 (sym ((bytes_decides uri some_one.0.canonical).0 found.1) ∙ sym (stands.named d))))

pub standing_some : (ds : List Document) (uri : Text) (at : ℕ) → StandsAt ds uri at → is_none (document_of ds uri) ≡ false
standing_some ds uri at stands = some_one ds at stands.inside stands.named
  where
    some_one : (es : List Document) (k : ℕ) → k < length es → HoldsAt (λ d. d.canonical ≡ uri) es k → is_none (document_of es uri) ≡ false
    some_one [] k l named = absurd (omega (arith, l))
    some_one (e ∷ es) k l named =
        let there_is = found_some (λ (x : Document). same_text uri x.canonical) (get_or (e ∷ es) k e) (e ∷ es) (Contains-get_or (e ∷ es) k e l) ((bytes_decides uri (get_or (e ∷ es) k e).canonical).1 (sym (named e))) in
        ap is_none there_is.1

-- ---- shared documents
pub get_or-map : {X Y : Type 0} (f : X → Y) (xs : List X) (k : ℕ) (d : X) → get_or (map f xs) k (f d) ≡ f (get_or xs k d)
get_or-map f [] k d = refl
get_or-map f (x ∷ xs) zero d = refl
get_or-map f (x ∷ xs) (suc k) d = get_or-map f xs k d

pub shared_as_long : (items : List (Rc Compiled Global)) → length (shared_documents items) ≡ length items
unfolding shared_documents
shared_as_long items = length-map items (λ (d : Rc Compiled Global). compiled_view d.value)

pub shared_standing : (items : List (Rc Compiled Global)) (uri : Text) (at : ℕ) (d : Rc Compiled Global) → Ascend (shared_documents items) → StandsAt (shared_documents items) uri at → d ≡ get_or items at d
    → document_of (shared_documents items) uri ≡ Some (compiled_view d.value)
unfolding shared_documents
shared_standing items uri at d ascend stands is =
    standing_found (shared_documents items) uri at ascend stands (compiled_view d.value)
    ∙ ap Some (get_or-map (λ (x : Rc Compiled Global). compiled_view x.value) items at d ∙ ap (λ (x : Rc Compiled Global). compiled_view x.value) (sym is))
