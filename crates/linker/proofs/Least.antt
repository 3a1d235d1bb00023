-- The least text of several, one after the other.
use Rattle.std.proofs.Common.{◌≡◌, List, [], ◌∷◌, ◌++◌, Option, Some, None, false, Contains, Ordering, Less, Equal, Greater, is_lt, sym, refl, ap, ◌∙◌, subst, inl, inr}
use Rattle.std.proofs.lemmas.Cmp.{nat_list_cmp_total, tied_itself}
use Rattle.std.proofs.lemmas.List.Elements.{Contains-append_left, Contains-append_right, Contains-append_cases}
use Rattle.std.specs.Cmp.Lexicographic.{slice_cmp}
use Rattle.std.specs.Ordering.{nat_cmp, match_ordering, ordering_reverse}
use Rattle.definitions.specs.Values.{Text}
use Rattle.definitions.specs.Reach.{least, lesser}
use Rattle.definition_laws.specs.Linking.{IsLeast}
use Rattle.lemmas.proofs.Orders.{less_is_lt}
use Rattle.definition_laws.proofs.LeastTexts.{least_is_least, neither_before, no_least}
use Rattle.definition_laws.proofs.Membership.{nothing_in, is_first, first_or_later}
use Rattle.definition_laws.proofs.PlacedDocuments.{tied}

abbrev cmp : Text → Text → Ordering
cmp = slice_cmp nat_cmp

unique_at : (ts : List Text) (t : Text) (o : Option Text) → least ts ≡ o → IsLeast ts t → least ts ≡ Some t
unique_at ts t None e low = absurd (nothing_in t (subst (λ us. Contains us t) (no_least ts e) low.inside))
unique_at ts t (Some s) e low =
    let other = least_is_least ts s e in
    e ∙ ap Some (neither_before s t (low.none_less s other.inside) (other.none_less t low.inside))

is_the_least : (ts : List Text) (t : Text) → IsLeast ts t → least ts ≡ Some t
is_the_least ts t low = unique_at ts t (least ts) refl low

-- what doesn't come before u doesn't come before what u doesn't come before
not_before : (w t u : Text) → (o : Ordering) → cmp t u ≡ o → is_lt (cmp u t) ≡ false → is_lt (cmp w u) ≡ false → is_lt (cmp w t) ≡ false
not_before w t u Less e upper h = false_from_lt (cmp w t) refl
  where
    false_from_lt : (p : Ordering) → cmp w t ≡ p → is_lt p ≡ false
    false_from_lt Less below = absurd (less_is_lt (cmp w u) (nat_list_cmp_total.trans w t u below e) h)
    false_from_lt Equal below = refl
    false_from_lt Greater below = refl
not_before w t u Equal e upper h = ap (λ x. is_lt (cmp w x)) (tied t u e) ∙ h
not_before w t u Greater e upper h = absurd (less_is_lt (cmp u t) (nat_list_cmp_total.antisymm u t ∙ ap ordering_reverse e) upper)

itself : (t : Text) → is_lt (cmp t t) ≡ false
itself t = ap is_lt (tied_itself nat_list_cmp_total t)

alone : (t : Text) → IsLeast (t ∷ []) t
alone t = record {
  inside = is_first t [];
  none_less = λ u c. elim (first_or_later t u [] c) [
    | inl same ↦ subst (λ x. is_lt (cmp x t) ≡ false) same (itself t)
    | inr later ↦ absurd (nothing_in u later)
  ];
}

last_least : (ts : List Text) (t s : Text) → IsLeast ts s → is_lt (cmp s t) ≡ false → IsLeast (ts ++ t ∷ []) t
last_least ts t s low upper = record {
  inside = Contains-append_right ts (t ∷ []) t (is_first t []);
  none_less = λ u c. elim (Contains-append_cases ts (t ∷ []) u c) [
    | inl before ↦ not_before u t s (cmp t s) refl upper (low.none_less u before)
    | inr last ↦ (alone t).none_less u last
  ];
}

still_least : (ts : List Text) (t s : Text) → IsLeast ts s → is_lt (cmp t s) ≡ false → IsLeast (ts ++ t ∷ []) s
still_least ts t s low upper = record {
  inside = Contains-append_left ts (t ∷ []) s low.inside;
  none_less = λ u c. elim (Contains-append_cases ts (t ∷ []) u c) [
    | inl before ↦ low.none_less u before
    | inr last ↦ elim (first_or_later t u [] last) [
      | inl same ↦ subst (λ x. is_lt (cmp x s) ≡ false) same upper
      | inr later ↦ absurd (nothing_in u later)
    ]
  ];
}

by_order : (ts : List Text) (t s : Text) (o : Ordering) → cmp t s ≡ o → IsLeast ts s → IsLeast (ts ++ t ∷ []) (match_ordering o t t s)
by_order ts t s Less e low = last_least ts t s low (ap is_lt (nat_list_cmp_total.antisymm s t ∙ ap ordering_reverse e))
by_order ts t s Equal e low = last_least ts t s low (ap is_lt (nat_list_cmp_total.antisymm s t ∙ ap ordering_reverse e))
by_order ts t s Greater e low = still_least ts t s low (ap is_lt e)

by_rest : (ts : List Text) (t : Text) (o : Option Text) → least ts ≡ o → IsLeast (ts ++ t ∷ []) (lesser t o)
by_rest ts t None e = subst (λ us. IsLeast (us ++ t ∷ []) t) (sym (no_least ts e)) (alone t)
by_rest ts t (Some s) e = by_order ts t s (cmp t s) refl (least_is_least ts s e)

-- one text more
pub least_more : (ts : List Text) (t : Text) → least (ts ++ t ∷ []) ≡ Some (lesser t (least ts))
least_more ts t = is_the_least (ts ++ t ∷ []) (lesser t (least ts)) (by_rest ts t (least ts) refl)
