-- The least of some texts, and references without a target.
use Rattle.std.proofs.Common.{◌≡◌, true, false, ◌↔◌, List, [], ◌∷◌, is_some, is_none, IsTrue, Some, None, Contains, Option, flat_map, is_lt, is_gt, Ordering, Less, Equal, Greater, sym, refl, ap, ◌∙◌, subst, inl, inr, true≢false}
use Rattle.std.proofs.lemmas.Cmp.{nat_list_cmp_total, tied_itself, upto}
use Rattle.std.specs.Cmp.Lexicographic.{slice_cmp}
use Rattle.std.specs.Ordering.{nat_cmp, match_ordering, ordering_reverse}
use Rattle.definitions.specs.Values.{Text}
use Rattle.definitions.specs.Schemas.{Document, table_of}
use Rattle.definitions.specs.Targets.{target}
use Rattle.definitions.specs.Reach.{references_in, missing_references, least, lesser}
use Rattle.lemmas.proofs.Options.{none_from_is_none}
use Rattle.lemmas.proofs.Orders.{less_is_lt}
use Rattle.definition_laws.specs.Linking.{IsLeast, IsMissing}
use Rattle.definition_laws.proofs.Membership.{nothing_in, is_first, is_later, first_or_later, in_filter, from_filter}
use Rattle.definition_laws.proofs.PlacedDocuments.{tied}
use Rattle.definition_laws.proofs.Repeats.{in_flat_map, from_flat_map}

abbrev cmp : Text → Text → Ordering
cmp = slice_cmp nat_cmp

-- ---- the least text
record IsLowest (ts : List Text) (t : Text) : Type 0 where
  inside : Contains ts t
  none_above : (u : Text) → Contains ts u → is_gt (cmp t u) ≡ false

itself : (t : Text) → is_gt (cmp t t) ≡ false
itself t = ap is_gt (tied_itself nat_list_cmp_total t)

lower : (t u : Text) (ts : List Text) → Contains ts t → is_gt (cmp t u) ≡ false → IsLowest ts u → IsLowest ts t
lower t u ts c e low = record { inside = c; none_above = λ w d. upto nat_list_cmp_total t u w e (low.none_above w d) }

with_first : (t u : Text) (ts : List Text) → is_gt (cmp u t) ≡ false → IsLowest ts u → IsLowest (t ∷ ts) u
with_first t u ts e low = record {
  inside = is_later t u ts low.inside;
  none_above = λ w d. elim (first_or_later t w ts d) [ inl same ↦ subst (λ x. is_gt (cmp u x) ≡ false) same e | inr later ↦ low.none_above w later ];
}

first_lowest : (t u : Text) (ts : List Text) → is_gt (cmp t u) ≡ false → IsLowest ts u → IsLowest (t ∷ ts) t
first_lowest t u ts e low = record {
  inside = is_first t ts;
  none_above = λ w d. elim (first_or_later t w ts d) [
    | inl same ↦ subst (λ x. is_gt (cmp t x) ≡ false) same (itself t)
    | inr later ↦ upto nat_list_cmp_total t u w e (low.none_above w later)
  ];
}

by_order : (t u : Text) (ts : List Text) (o : Ordering) → cmp t u ≡ o → IsLowest ts u → IsLowest (t ∷ ts) (match_ordering o t t u)
by_order t u ts Less e low = first_lowest t u ts (ap is_gt e) low
by_order t u ts Equal e low = first_lowest t u ts (ap is_gt e) low
by_order t u ts Greater e low = with_first t u ts (ap is_gt (nat_list_cmp_total.antisymm u t ∙ ap ordering_reverse e)) low

pub no_least : (ts : List Text) → least ts ≡ None → ts ≡ []
no_least [] e = refl
no_least (t ∷ ts) e = cc

by_rest : (t : Text) (ts : List Text) (o : Option Text) → least ts ≡ o → ((u : Text) → o ≡ Some u → IsLowest ts u) → IsLowest (t ∷ ts) (lesser t o)
by_rest t ts None e rest =
    subst (λ us. IsLowest (t ∷ us) t) (sym (no_least ts e))
    (record {
      inside = is_first t [];
      none_above = λ w d. elim (first_or_later t w [] d) [
        | inl same ↦ subst (λ x. is_gt (cmp t x) ≡ false) same (itself t)
        | inr later ↦ absurd (nothing_in w later)
      ];
    })
by_rest t ts (Some u) e rest = by_order t u ts (cmp t u) refl (rest u refl)

lowest : (ts : List Text) (t : Text) → least ts ≡ Some t → IsLowest ts t
lowest [] t e = cc
lowest (s ∷ ts) t e =
    let is : lesser s (least ts) ≡ t = cc in
    subst (IsLowest (s ∷ ts)) is (by_rest s ts (least ts) refl (λ u h. lowest ts u h))

reversed : (o : Ordering) → is_gt o ≡ false → is_lt (ordering_reverse o) ≡ false
reversed Less e = refl
reversed Equal e = refl
reversed Greater e = e

pub least_is_least : (ts : List Text) (t : Text) → least ts ≡ Some t → IsLeast ts t
least_is_least ts t e =
    let low = lowest ts t e in
    record {
      inside = low.inside;
      none_less = λ u c. ap is_lt (nat_list_cmp_total.antisymm u t) ∙ reversed (cmp t u) (low.none_above u c);
    }

-- neither of two texts comes before the other
neither_at : (s t : Text) (o : Ordering) → cmp s t ≡ o → is_lt (cmp s t) ≡ false → is_lt (cmp t s) ≡ false → s ≡ t
neither_at s t Less e h k = absurd (less_is_lt (cmp s t) e h)
neither_at s t Equal e h k = tied s t e
neither_at s t Greater e h k = absurd (less_is_lt (cmp t s) (nat_list_cmp_total.antisymm t s ∙ ap ordering_reverse e) k)

pub neither_before : (s t : Text) → is_lt (slice_cmp nat_cmp s t) ≡ false → is_lt (slice_cmp nat_cmp t s) ≡ false → s ≡ t
neither_before s t = neither_at s t (cmp s t) refl

pub no_texts : (ts : List Text) → (least ts ≡ None) ↔ (ts ≡ [])
no_texts ts = (no_least ts, λ e. ap least e)

-- ---- references without a target
pub missing_name_nothing : (ds : List Document) (reference : Text) → Contains (missing_references ds) reference ↔ IsMissing ds reference
missing_name_nothing ds r = (from_missing, to_missing)
  where
    from_missing : Contains (missing_references ds) r → IsMissing ds r
    from_missing c =
        let kept = from_filter (λ x. is_none (target (table_of ds) x)) r (flat_map references_in ds) c in
        let by : (d : Document) × (Contains ds d × Contains (references_in d) r) = from_flat_map references_in r ds kept.0 in
        record { document = by.0; inside = by.1.0; refers = by.1.1; names_nothing = none_from_is_none (target (table_of ds) r) kept.1 }

    to_missing : IsMissing ds r → Contains (missing_references ds) r
    to_missing m =
        in_filter (λ x. is_none (target (table_of ds) x)) r (flat_map references_in ds) (in_flat_map references_in m.document r ds m.inside m.refers) (ap is_none m.names_nothing)

something : {A : Type 0} (o : Option A) → (o ≡ None → ⊥) → is_some o ≡ true
something None h = absurd (h refl)
something (Some x) h = refl

nothing : {A : Type 0} (o : Option A) → is_some o ≡ true → o ≡ None → ⊥
nothing o e h = true≢false (sym e ∙ ap is_some h)

only_empty : {A : Type 0} (xs : List A) → ((x : A) → Contains xs x → ⊥) → xs ≡ []
only_empty [] h = refl
only_empty (x ∷ xs) h = absurd (h x (is_first x xs))

pub linked_name_all : (ds : List Document)
    → (least (missing_references ds) ≡ None) ↔ ((d : Document) (reference : Text) → Contains ds d → Contains (references_in d) reference → IsTrue (is_some (target (table_of ds) reference)))
linked_name_all ds = (
  λ e d r c k. something (target (table_of ds) r) (λ none.
      nothing_in r (subst (λ ts. Contains ts r) (no_least (missing_references ds) e)
      ((missing_name_nothing ds r).1 (record { document = d; inside = c; refers = k; names_nothing = none })))),
  λ all. ap least (only_empty (missing_references ds) (λ r c.
      let m = (missing_name_nothing ds r).0 c in
      nothing (target (table_of ds) r) (all m.document r m.inside m.refers) m.names_nothing)),
)
