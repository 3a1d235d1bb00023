-- Where a name stands among entries in order of names, and what an edit at that position does.
use Rattle.std.proofs.Common.{◌≡◌, ℕ, zero, suc, ◌+◌, ◌-◌, ◌++◌, slice_get, slice_index_or, ◌<◌, ◌≤◌, List, [], ◌∷◌, length, take, drop, get_or, set, Option, Some, None, option_map, Ordering, Less, Equal, Greater, nat_cmp, is_eq, true, refl, sym, ap, ◌∙◌, arith, add-one, subst}
use Rattle.std.proofs.lemmas.Cmp.{nat_list_cmp_total}
use Rattle.std.proofs.lemmas.List.{take_all}
use Rattle.std.proofs.lemmas.Map.Text.{is_eq-slice_cmp}
use Rattle.std.proofs.lemmas.Option.{get_or_from_slice_get, slice_get-get_or}
use Rattle.std.proofs.lemmas.Slice.Eq.{bytes_eq-Decides}
use Rattle.std.specs.BTreeMap.{is_at, insert_entry}
use Rattle.std.specs.Cmp.Lexicographic.{slice_cmp}
use Rattle.std.specs.List.{AllByRecursion, insert}
use Rattle.std.specs.List.Sorted.{IsStrictlySortedBy}
use Rattle.std.specs.Map.{keys_of, lookup}
use mathlib.Core.Bool.{true≢false}
use Rattle.std.specs.Ordering.{ordering_reverse, is_gt}
use Rattle.definitions.specs.Values.{Text}
use Rattle.json_doc.specs.SmallTexts.{text_view, text_cmp}
use Rattle.json_doc.specs.declared.small_text.SmallText.{SmallText}
use Rattle.json_doc.specs.NameMaps.{order_to, entry_named, IsAbove, IsAboveNone, IsBelow, IsPositionOf, IsGapFor}

abbrev compared : Text → Text → Ordering
compared = slice_cmp nat_cmp

by_ordering : {P : Type 0} (r : Ordering) → (r ≡ Less → P) → (r ≡ Equal → P) → (r ≡ Greater → P) → P
by_ordering Less a b c = a refl
by_ordering Equal a b c = b refl
by_ordering Greater a b c = c refl

-- ---- three names
above_lower : (name lower other : Text) → compared lower other ≡ Less → compared name other ≡ Greater → compared name lower ≡ Greater
above_lower name lower other h k =
    let under : compared other name ≡ Less = nat_list_cmp_total.antisymm other name ∙ ap ordering_reverse k in
    nat_list_cmp_total.antisymm name lower ∙ ap ordering_reverse (nat_list_cmp_total.trans lower other name h under)

same_above_lower : (name lower other : Text) → compared lower other ≡ Less → compared name other ≡ Equal → compared name lower ≡ Greater
same_above_lower name lower other h k =
    nat_list_cmp_total.congr name other lower k ∙ nat_list_cmp_total.antisymm other lower ∙ ap ordering_reverse h

abbrev pub Entry : Type 0 → Type 0
Entry T = SmallText × T

abbrev pub InOrder : {T : Type 0} → List (Entry T) → Type 0
InOrder es = IsStrictlySortedBy text_cmp (keys_of es)

module _ {T : Type 0} where
  -- the first of these is below the one at i
  first_below : (first : SmallText) (es : List (Entry T)) (i : ℕ) (d : Entry T) → i < length es → AllByRecursion (λ k. text_cmp first k ≡ Less) (keys_of es)
      → compared (text_view first) (text_view (get_or es i d).0) ≡ Less
  first_below first [] i d lt h = absurd (omega arith)
  first_below first (e ∷ es) zero d lt h = h.0
  first_below first (e ∷ es) (suc i) d lt h = first_below first es i d (omega arith) h.1

  below_all : (name : Text) (first : SmallText) (es : List (Entry T)) → compared name (text_view first) ≡ Less → AllByRecursion (λ k. text_cmp first k ≡ Less) (keys_of es) → IsBelow name es
  below_all name first [] l h = tt
  below_all name first (e ∷ es) l h = (nat_list_cmp_total.trans name (text_view first) (text_view e.0) l h.0, below_all name first es l h.1)

  -- ---- a step of the search
  above_through : (name : Text) (es : List (Entry T)) (i : ℕ) (d : Entry T) → InOrder es → i < length es → order_to name (get_or es i d) ≡ Greater → IsAbove name (take (suc i) es)
  unfolding IsStrictlySortedBy
  above_through name [] i d order lt h = absurd (omega arith)
  above_through name (e ∷ es) zero d order lt h = (h, tt)
  above_through name (e ∷ es) (suc i) d order lt h =
      (above_lower name _ _ (first_below e.0 es i d (omega arith) order.0) h, above_through name es i d order.1 (omega arith) h)

  pub above_next : (name : Text) (es : List (Entry T)) (i : ℕ) (d : Entry T) → InOrder es → i < length es → order_to name (get_or es i d) ≡ Greater → IsAbove name (take (i + 1) es)
  above_next name es i d order lt h = rw (add-one i) (above_through name es i d order lt h)

  pub above_before : (name : Text) (es : List (Entry T)) (i : ℕ) (d : Entry T) → InOrder es → i < length es → order_to name (get_or es i d) ≡ Equal → IsAbove name (take i es)
  unfolding IsStrictlySortedBy
  above_before name [] i d order lt h = absurd (omega arith)
  above_before name (e ∷ es) zero d order lt h = tt
  above_before name (e ∷ es) (suc i) d order lt h =
      (same_above_lower name _ _ (first_below e.0 es i d (omega arith) order.0) h, above_before name es i d order.1 (omega arith) h)

  pub below_from : (name : Text) (es : List (Entry T)) (i : ℕ) (d : Entry T) → InOrder es → i < length es → order_to name (get_or es i d) ≡ Less → IsBelow name (drop i es)
  unfolding IsStrictlySortedBy
  below_from name [] i d order lt h = absurd (omega arith)
  below_from name (e ∷ es) zero d order lt h = (h, below_all name e.0 es h order.0)
  below_from name (e ∷ es) (suc i) d order lt h = below_from name es i d order.1 (omega arith) h

  -- ---- cutting in two
  pub none_above_below : (name : Text) (es : List (Entry T)) → IsBelow name es → IsAboveNone name es
  none_above_below name [] h = tt
  none_above_below name (e ∷ es) h = (ap is_gt h.0, none_above_below name es h.1)

  below_same : (name : Text) (first : SmallText) (es : List (Entry T)) → compared name (text_view first) ≡ Equal → AllByRecursion (λ k. text_cmp first k ≡ Less) (keys_of es) → IsBelow name es
  below_same name first [] same h = tt
  below_same name first (e ∷ es) same h = (nat_list_cmp_total.congr name (text_view first) (text_view e.0) same ∙ h.0, below_same name first es same h.1)

  from_same : (name : Text) (es : List (Entry T)) (i : ℕ) → InOrder es → i < length es → ((d : Entry T) → order_to name (slice_index_or es i d) ≡ Equal) → IsAboveNone name (drop i es)
  unfolding IsStrictlySortedBy
  from_same name [] i order lt h = absurd (omega arith)
  from_same name (e ∷ es) zero order lt h = (ap is_gt (h e), none_above_below name es (below_same name e.0 es (h e) order.0))
  from_same name (e ∷ es) (suc i) order lt h = from_same name es i order.1 (omega arith) h

  pub none_above_from : (name : Text) (es : List (Entry T)) (i : ℕ) → InOrder es → IsPositionOf name es i → IsAboveNone name (drop i es)
  none_above_from name es i order at = from_same name es i order at.within at.same

  pub in_order_from : (es : List (Entry T)) (i : ℕ) → InOrder es → InOrder (drop i es)
  unfolding IsStrictlySortedBy
  in_order_from [] zero order = order
  in_order_from [] (suc i) order = order
  in_order_from (e ∷ es) zero order = order
  in_order_from (e ∷ es) (suc i) order = in_order_from es i order.1

  -- ---- what is there
  abbrev named : Text → List (Entry T) → Option T
  named name es = lookup (is_at (λ k. compared name (text_view k))) es

  none_below : (name : Text) (es : List (Entry T)) → IsBelow name es → named name es ≡ None
  none_below name [] h = refl
  none_below name (e ∷ es) h = rw (h.0, none_below name es h.1) refl

  pub none_at_gap : (name : Text) (es : List (Entry T)) (i : ℕ) → IsAbove name (take i es) → IsBelow name (drop i es) → named name es ≡ None
  none_at_gap name [] i above below = refl
  none_at_gap name (e ∷ es) zero above below = none_below name (e ∷ es) below
  none_at_gap name (e ∷ es) (suc i) above below = rw above.0 (none_at_gap name es i above.1 below)

  pub value_at_position : (name : Text) (es : List (Entry T)) (i : ℕ) (d : Entry T) → i < length es → IsAbove name (take i es) → order_to name (get_or es i d) ≡ Equal
      → named name es ≡ Some (get_or es i d).1
  value_at_position name [] i d lt above h = absurd (omega arith)
  value_at_position name (e ∷ es) zero d lt above h = rw h refl
  value_at_position name (e ∷ es) (suc i) d lt above h = rw above.0 (value_at_position name es i d (omega arith) above.1 h)

  -- ---- putting an entry in
  pub put_at_gap : (name : SmallText) (v : T) (es : List (Entry T)) (i : ℕ) → i ≤ length es → IsAbove (text_view name) (take i es) → IsBelow (text_view name) (drop i es)
      → insert es i (name, v) ≡ insert_entry text_cmp es name v
  put_at_gap name v [] zero le above below = refl
  put_at_gap name v [] (suc i) le above below = absurd (omega arith)
  put_at_gap name v (e ∷ es) zero le above below = rw below.0 refl
  put_at_gap name v (e ∷ es) (suc i) le above below = rw above.0 (ap (λ r. e ∷ r) (put_at_gap name v es i (omega arith) above.1 below))

  pub put_at_position : (name : SmallText) (v : T) (es : List (Entry T)) (i : ℕ) (d : Entry T) → i < length es → IsAbove (text_view name) (take i es) → order_to (text_view name) (get_or es i d) ≡ Equal
      → set es i ((get_or es i d).0, v) ≡ insert_entry text_cmp es name v
  put_at_position name v [] i d lt above h = absurd (omega arith)
  put_at_position name v (e ∷ es) zero d lt above h = rw h refl
  put_at_position name v (e ∷ es) (suc i) d lt above h = rw above.0 (ap (λ r. e ∷ r) (put_at_position name v es i d (omega arith) above.1 h))

  still_below : (first name : SmallText) (v : T) (es : List (Entry T)) → text_cmp first name ≡ Less → AllByRecursion (λ k. text_cmp first k ≡ Less) (keys_of es)
      → AllByRecursion (λ k. text_cmp first k ≡ Less) (keys_of (insert_entry text_cmp es name v))
  still_below first name v [] l h = (l, tt)
  still_below first name v (e ∷ es) l h = by_ordering (text_cmp name e.0)
      (λ o. rw o (l, h))
      (λ o. rw o h)
      (λ o. rw o (h.0, still_below first name v es l h.1))

  pub in_order_put : (name : SmallText) (v : T) (es : List (Entry T)) → InOrder es → InOrder (insert_entry text_cmp es name v)
  unfolding IsStrictlySortedBy
  in_order_put name v [] order = (tt, tt)
  in_order_put name v (e ∷ es) order = by_ordering (text_cmp name e.0)
      (λ o. rw o ((o, all_after e.0 es o order.0), order))
      (λ o. rw o order)
      (λ o. rw o (still_below e.0 name v es (nat_list_cmp_total.antisymm (text_view e.0) (text_view name) ∙ ap ordering_reverse o) order.0, in_order_put name v es order.1))
    where
      all_after : (first : SmallText) (rest : List (Entry T)) → text_cmp name first ≡ Less → AllByRecursion (λ k. text_cmp first k ≡ Less) (keys_of rest) → AllByRecursion (λ k. text_cmp name k ≡ Less) (keys_of rest)
      all_after first [] l h = tt
      all_after first (f ∷ rest) l h = (nat_list_cmp_total.trans (text_view name) (text_view first) (text_view f.0) l h.0, all_after first rest l h.1)

-- ---- what a comparison told
pub told : {T : Type 0} (name text : Text) (at : Entry T) (r : Ordering) → text ≡ text_view at.0 → r ≡ compared name text → order_to name at ≡ r
told name text at r is answer = ap (compared name) (sym is) ∙ sym answer

greater : (r : Ordering) → is_gt r ≡ true → r ≡ Greater
greater Less e = absurd (true≢false (sym e))
greater Equal e = absurd (true≢false (sym e))
greater Greater e = refl

-- ---- what a search found
pub key_is : (name : Text) (k : SmallText) → compared name (text_view k) ≡ Equal → text_view k ≡ name
key_is name k e = sym ((bytes_eq-Decides name (text_view k)).0 (sym (is_eq-slice_cmp name (text_view k)) ∙ ap is_eq e))

module _ {T : Type 0} where
  pub shown_at_position : (name : Text) (es whole : List (Entry T)) (i : ℕ) (e : Entry T) → es ≡ whole → e ≡ get_or es i e → IsPositionOf name es i
      → Some (text_view e.0, e.1) ≡ entry_named name whole
  shown_at_position name es whole i e all at there =
      let same = there.same e in
      ap (λ (f : Entry T). Some (text_view f.0, f.1)) at ∙ ap (λ (n : Text). Some (n, (get_or es i e).1)) (key_is name (get_or es i e).0 same)
      ∙ ap (option_map (λ v. (name, v))) (sym (value_at_position name es i e there.within there.above same)) ∙ ap (entry_named name) all

  pub none_shown : (name : Text) (es whole : List (Entry T)) (i : ℕ) → es ≡ whole → IsGapFor name es i → None ≡ entry_named name whole
  none_shown name es whole i all gap = ap (option_map (λ v. (name, v))) (sym (none_at_gap name es i gap.above gap.below)) ∙ ap (entry_named name) all

  pub key_found : (name : Text) (seen es : List (Entry T)) (i : ℕ) (e : Entry T) → seen ≡ es → e ≡ get_or es i e → IsPositionOf name seen i → text_view e.0 ≡ name
  key_found name seen es i e all at there =
      let h : IsPositionOf name es i = subst (λ l. IsPositionOf name l i) all there in
      ap (λ (f : Entry T). text_view f.0) at ∙ key_is name (get_or es i e).0 (h.same e)

  pub put_found : (text : Text) (name : SmallText) (v : T) (seen es : List (Entry T)) (i : ℕ) (e : Entry T) → text ≡ text_view name → seen ≡ es → e ≡ get_or es i e → IsPositionOf text seen i
      → set es i (e.0, v) ≡ insert_entry text_cmp es name v
  put_found text name v seen es i e is all at there =
      let h : IsPositionOf (text_view name) es i = subst (λ n. IsPositionOf n es i) is (subst (λ l. IsPositionOf text l i) all there) in
      ap (λ (f : Entry T). set es i (f.0, v)) at ∙ put_at_position name v es i e h.within h.above (h.same e)

  pub put_missing : (text : Text) (name : SmallText) (v : T) (seen es : List (Entry T)) (i : ℕ) → text ≡ text_view name → seen ≡ es → IsGapFor text seen i
      → insert es i (name, v) ≡ insert_entry text_cmp es name v
  put_missing text name v seen es i is all gap =
      let h : IsGapFor (text_view name) es i = subst (λ n. IsGapFor n es i) is (subst (λ l. IsGapFor text l i) all gap) in
      put_at_gap name v es i h.within h.above h.below

  -- ---- a name above all
  pub above_all : (name : Text) (es : List (Entry T)) (last : Entry T) → InOrder es → Some last ≡ slice_get es (length es - 1) → order_to name last ≡ Greater → IsAbove name es
  above_all name [] last order at h = tt
  above_all name (e ∷ es) last order at h =
      let i : ℕ = length (e ∷ es) - 1 in
      let is : get_or (e ∷ es) i last ≡ last = get_or_from_slice_get (e ∷ es) i last last (sym at) in
      subst (IsAbove name) (take_all (i + 1) (e ∷ es) (omega arith)) (above_next name (e ∷ es) i last order (omega arith) (ap (order_to name) is ∙ h))

  pub above_last : (name text : Text) (es : List (Entry T)) (last : Entry T) (r : Ordering) → InOrder es → Some last ≡ slice_get es (length es - 1) → text ≡ text_view last.0 → r ≡ compared name text
      → is_gt r ≡ true → IsAbove name es
  above_last name text es last r order at is answer holds = above_all name es last order at (told name text last r is answer ∙ greater r holds)

  pub above_none : (name : Text) (es : List (Entry T)) → None ≡ slice_get es (length es - 1) → IsAbove name es
  above_none name [] at = tt
  above_none name (e ∷ es) at = absurd (none_is_some (at ∙ slice_get-get_or (e ∷ es) (length (e ∷ es) - 1) e (omega arith)))
    where
      none_is_some : {a : Entry T} → None ≡ Some a → ⊥
      none_is_some h = cc

  pub put_above : (name : SmallText) (v : T) (es : List (Entry T)) → IsAbove (text_view name) es → es ++ (name, v) ∷ [] ≡ insert_entry text_cmp es name v
  put_above name v [] h = refl
  put_above name v (e ∷ es) h = rw h.0 (ap (λ r. e ∷ r) (put_above name v es h.1))

  -- ---- entries that come in order
  above_first : (first : SmallText) (es : List (Entry T)) (e : Entry T) (rest : List (Entry T)) → AllByRecursion (λ k. text_cmp first k ≡ Less) (keys_of (es ++ e ∷ rest)) → text_cmp first e.0 ≡ Less
  above_first first [] e rest h = h.0
  above_first first (f ∷ es) e rest h = above_first first es e rest h.1

  pub put_next : (done : List (Entry T)) (e : Entry T) (rest : List (Entry T)) → InOrder (done ++ e ∷ rest) → insert_entry text_cmp done e.0 e.1 ≡ done ++ e ∷ []
  unfolding IsStrictlySortedBy
  put_next [] e rest order = refl
  put_next (d ∷ done) e rest order =
      let above : text_cmp e.0 d.0 ≡ Greater = nat_list_cmp_total.antisymm (text_view e.0) (text_view d.0) ∙ ap ordering_reverse (above_first d.0 done e rest order.0) in
      rw above (ap (λ r. d ∷ r) (put_next done e rest order.1))
