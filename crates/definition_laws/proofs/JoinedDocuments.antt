-- A library's documents among others: what is placed or left out there is so in the joined list.
use Rattle.std.proofs.Common.{◌≡◌, ◌⊎◌, Bool, true, false, not, cond, List, [], ◌∷◌, map, Option, Some, None, is_some, Contains, filter, Less, Equal, sym, refl, ap, ◌∙◌, subst, inl, inr, true≢false}
use Rattle.std.proofs.lemmas.Bool.{false_from_ne_true, not-true}
use Rattle.std.proofs.lemmas.Cmp.{nat_list_cmp_total, tied_itself}
use Rattle.std.proofs.lemmas.List.Elements.{All-from_recursion, All-contains}
use Rattle.std.specs.Cmp.Lexicographic.{slice_cmp, bytes_decides}
use Rattle.std.specs.List.{list_any}
use Rattle.std.specs.List.Sorted.{IsStrictlySortedBy}
use Rattle.std.specs.Ordering.{nat_cmp}
use Rattle.definitions.specs.Values.{Text, same_text}
use Rattle.definitions.specs.Schemas.{Document}
use Rattle.definitions.specs.Documents.{document_of, others_of, documents_with, documents_of_both, documents_with_all, Ascend}
use Rattle.definition_laws.proofs.Membership.{nothing_in, is_first, is_later, first_or_later, from_filter, in_map, found_none, found_some}
use Rattle.definition_laws.proofs.Repeats.{none_of}
use Rattle.definition_laws.proofs.Resources.{same_text-unlike}
use Rattle.definition_laws.proofs.Placing.{inserted, ascending, kept_ascending}
use Rattle.definition_laws.proofs.Replacing.{either_first, in_front, among_part, in_place}
use Rattle.definition_laws.proofs.PlacedDocuments.{key_of, as_inserted, from_placed, in_placed, tied}

-- ---- tests of canonical URIs
abbrev pub IsOther : Text → Document → Type 0
IsOther uri d = same_text uri d.canonical ≡ false

pub other : (uri : Text) (d : Document) → (uri ≡ d.canonical → ⊥) → IsOther uri d
other uri d h = false_from_ne_true (same_text uri d.canonical) (λ e. h ((bytes_decides uri d.canonical).0 e))

pub is_unequal : (uri : Text) (d : Document) → IsOther uri d → uri ≡ d.canonical → ⊥
is_unequal uri d h e = true≢false (sym ((bytes_decides uri d.canonical).1 e) ∙ h)

pub tie_at : (t u : Text) → t ≡ u → slice_cmp nat_cmp t u ≡ Equal
tie_at t u e = ap (slice_cmp nat_cmp t) (sym e) ∙ tied_itself nat_list_cmp_total t

-- among documents none of which has the URI
pub is_other : (ls : List Document) (uri : Text) (l : Document) → is_some (document_of ls uri) ≡ false → Contains ls l → IsOther uri l
is_other ls uri l none c = false_from_ne_true (same_text uri l.canonical) (λ e. true≢false (sym (ap is_some (found_some (λ d. same_text uri d.canonical) l ls c e).1) ∙ none))

-- ---- one document
pub ascend_placed : (d : Document) (ds : List Document) → Ascend ds → Ascend (documents_with d ds)
ascend_placed d ds sorted = subst Ascend (as_inserted d ds) (ascending (slice_cmp nat_cmp) nat_list_cmp_total key_of d ds sorted)

pub ascend_part : (p : Document → Bool) (ds : List Document) → Ascend ds → Ascend (filter p ds)
ascend_part p ds sorted = kept_ascending (slice_cmp nat_cmp) key_of p ds sorted

both : (d e : Document) (ds : List Document) → inserted (slice_cmp nat_cmp) key_of d (inserted (slice_cmp nat_cmp) key_of e ds) ≡ documents_with d (documents_with e ds)
both d e ds = ap (inserted (slice_cmp nat_cmp) key_of d) (as_inserted e ds) ∙ as_inserted d (documents_with e ds)

placed_either_first : (d e : Document) (ds : List Document) → IsOther d.canonical e → documents_with d (documents_with e ds) ≡ documents_with e (documents_with d ds)
placed_either_first d e ds differ =
    sym (both d e ds)
    ∙ either_first (slice_cmp nat_cmp) nat_list_cmp_total key_of d e ds (λ tie. is_unequal d.canonical e differ (tied d.canonical e.canonical tie))
    ∙ both e d ds

-- a test of canonical URIs
module _ (p : Text → Bool) where
  pub part_placed : (d : Document) (ds : List Document) → p d.canonical ≡ true → Ascend ds → filter (λ x. p x.canonical) (documents_with d ds) ≡ documents_with d (filter (λ x. p x.canonical) ds)
  part_placed d ds passes sorted =
      ap (filter (λ (x : Document). p x.canonical)) (sym (as_inserted d ds))
      ∙ among_part (slice_cmp nat_cmp) nat_list_cmp_total key_of (λ x. p x.canonical) (λ a b tie. ap p (tied a.canonical b.canonical tie)) d ds passes sorted
      ∙ as_inserted d (filter (λ x. p x.canonical) ds)

is_left_out : (b : Bool) → b ≡ true → not b ≡ false
is_left_out true e = refl
is_left_out false e = sym e

is_left_in : (b : Bool) → b ≡ false → not b ≡ true
is_left_in true e = sym e
is_left_in false e = refl

-- in place of the one with its canonical URI
pub placed_instead : (d : Document) (ds : List Document) → Ascend ds → documents_with d (others_of d.canonical ds) ≡ documents_with d ds
placed_instead d ds sorted =
    sym (as_inserted d (others_of d.canonical ds))
    ∙ in_place (slice_cmp nat_cmp) nat_list_cmp_total key_of d (λ x. not (same_text d.canonical x.canonical))
    (λ z tie. is_left_out (same_text d.canonical z.canonical) ((bytes_decides d.canonical z.canonical).1 (tied d.canonical z.canonical tie)))
    (λ z apart. is_left_in (same_text d.canonical z.canonical) (other d.canonical z (λ e. apart (tie_at d.canonical z.canonical e))))
    ds sorted
    ∙ as_inserted d ds

-- ---- a library among others
not_first : (b : Bool) (l : Document) (o : Option Document) → is_some (cond b (Some l) o) ≡ false → (b ≡ false) × (is_some o ≡ false)
not_first true l o e = absurd (true≢false e)
not_first false l o e = (refl, e)

pub ascend_joined : (ls ds : List Document) → Ascend ds → Ascend (documents_of_both ls ds)
ascend_joined [] ds sorted = sorted
ascend_joined (l ∷ ls) ds sorted = ascend_placed l (documents_of_both ls ds) (ascend_joined ls ds sorted)

-- what isn't the library's may be placed before or after the library's are
pub joined_placed : (ls : List Document) (d : Document) (ds : List Document) → is_some (document_of ls d.canonical) ≡ false → documents_of_both ls (documents_with d ds) ≡ documents_with d (documents_of_both ls ds)
joined_placed [] d ds none = refl
joined_placed (l ∷ ls) d ds none =
    let parts = not_first (same_text d.canonical l.canonical) l (document_of ls d.canonical) none in
    ap (documents_with l) (joined_placed ls d ds parts.1)
    ∙ placed_either_first l d (documents_of_both ls ds) (same_text-unlike d.canonical l.canonical parts.0)

joined_part : (p : Text → Bool) (ls ds : List Document) → ((l : Document) → Contains ls l → p l.canonical ≡ true) → Ascend ds
    → documents_of_both ls (filter (λ x. p x.canonical) ds) ≡ filter (λ x. p x.canonical) (documents_of_both ls ds)
joined_part p [] ds passes sorted = refl
joined_part p (l ∷ ls) ds passes sorted =
    ap (documents_with l) (joined_part p ls ds (λ x c. passes x (is_later l x ls c)) sorted)
    ∙ sym (part_placed p l (documents_of_both ls ds) (passes l (is_first l ls)) (ascend_joined ls ds sorted))

-- and left out
pub joined_without : (ls ds : List Document) (uri : Text) → is_some (document_of ls uri) ≡ false → Ascend ds → documents_of_both ls (others_of uri ds) ≡ others_of uri (documents_of_both ls ds)
joined_without ls ds uri none sorted =
    joined_part (λ t. not (same_text uri t)) ls ds (λ l c. is_left_in (same_text uri l.canonical) (is_other ls uri l none c)) sorted

-- a library alone
pub joined_alone : (ls : List Document) → Ascend ls → documents_of_both ls [] ≡ ls
unfolding IsStrictlySortedBy
joined_alone [] sorted = refl
joined_alone (l ∷ ls) sorted =
    ap (documents_with l) (joined_alone ls sorted.1) ∙ sym (as_inserted l ls)
    ∙ in_front (slice_cmp nat_cmp) nat_list_cmp_total key_of l ls
    (λ z c. All-contains (λ k. slice_cmp nat_cmp l.canonical k ≡ Less) (map key_of ls) z.canonical
    (All-from_recursion (λ k. slice_cmp nat_cmp l.canonical k ≡ Less) (map key_of ls) sorted.0) (in_map key_of z ls c))

-- ---- several documents
-- without those that have the canonical URI of one of these
abbrev pub outside : List Document → List Document → List Document
outside [] ds = ds
outside (e ∷ es) ds = others_of e.canonical (outside es ds)

pub ascend_all : (es ds : List Document) → Ascend ds → Ascend (documents_with_all es ds)
ascend_all [] ds sorted = sorted
ascend_all (e ∷ es) ds sorted = ascend_all es (documents_with e ds) (ascend_placed e ds sorted)

pub ascend_outside : (es ds : List Document) → Ascend ds → Ascend (outside es ds)
ascend_outside [] ds sorted = sorted
ascend_outside (e ∷ es) ds sorted = ascend_part (λ x. not (same_text e.canonical x.canonical)) (outside es ds) (ascend_outside es ds sorted)

pub from_outside : (es ds : List Document) (x : Document) → Contains (outside es ds) x → Contains ds x × ((e : Document) → Contains es e → IsOther e.canonical x)
from_outside [] ds x c = (c, λ e k. absurd (nothing_in e k))
from_outside (e ∷ es) ds x c =
    let here = from_filter (λ y. not (same_text e.canonical y.canonical)) x (outside es ds) c in
    let rest = from_outside es ds x here.0 in (
      rest.0,
      λ f k. elim (first_or_later e f es k) [
        | inl same ↦ subst (λ u. IsOther u.canonical x) same (not-true (same_text e.canonical x.canonical) here.1)
        | inr later ↦ rest.1 f later
      ],
    )

pub none_outside : (uri : Text) (ds : List Document) → document_of (others_of uri ds) uri ≡ None
none_outside uri ds =
    found_none (λ (d : Document). same_text uri d.canonical) (others_of uri ds)
    (λ d c. not-true (same_text uri d.canonical) (from_filter (λ (x : Document). not (same_text uri x.canonical)) d ds c).1)

pub in_all : (es ds : List Document) (x : Document) → Contains ds x → ((e : Document) → Contains es e → IsOther e.canonical x) → Contains (documents_with_all es ds) x
in_all [] ds x c apart = c
in_all (e ∷ es) ds x c apart =
    in_all es (documents_with e ds) x (in_placed e x ds (λ same. is_unequal e.canonical x (apart e (is_first e es)) (sym same)) c) (λ f k. apart f (is_later e f es k))

pub from_all : (es ds : List Document) (x : Document) → Contains (documents_with_all es ds) x → Contains es x ⊎ Contains ds x
from_all [] ds x c = inr c
from_all (e ∷ es) ds x c = elim (from_all es (documents_with e ds) x c) [
  | inl own ↦ inl (is_later e x es own)
  | inr before ↦ elim (from_placed e x ds before) [
    | inl same ↦ inl (subst (Contains (e ∷ es)) same (is_first e es))
    | inr there ↦ inr there
  ]
]

outside_placed : (es : List Document) (d : Document) (ds : List Document) → ((e : Document) → Contains es e → IsOther e.canonical d) → Ascend ds
    → outside es (documents_with d ds) ≡ documents_with d (outside es ds)
outside_placed [] d ds apart sorted = refl
outside_placed (e ∷ es) d ds apart sorted =
    ap (others_of e.canonical) (outside_placed es d ds (λ f k. apart f (is_later e f es k)) sorted)
    ∙ part_placed (λ t. not (same_text e.canonical t)) d (outside es ds) (is_left_in (same_text e.canonical d.canonical) (apart e (is_first e es)))
    (ascend_outside es ds sorted)

-- no canonical URI stands twice: the first is apart from the others
pub first_apart : (e : Document) (es : List Document) → list_any (same_text e.canonical) (map key_of es) ≡ false → (x : Document) → Contains es x → IsOther e.canonical x
first_apart e es none x c = none_of (same_text e.canonical) x.canonical (map key_of es) none (in_map key_of x es c)

-- the first one is put among those that stay, in place of the one with its URI
pub outside_rest : (e : Document) (es ds : List Document) → list_any (same_text e.canonical) (map key_of es) ≡ false → Ascend ds
    → outside es (documents_with e ds) ≡ documents_with e (outside (e ∷ es) ds)
outside_rest e es ds none sorted =
    outside_placed es e ds (λ x c. same_text-unlike e.canonical x.canonical (first_apart e es none x c)) sorted
    ∙ sym (placed_instead e (outside es ds) (ascend_outside es ds sorted))

-- none of them is the library's
pub joined_all : (ls es ds : List Document) → ((e : Document) → Contains es e → is_some (document_of ls e.canonical) ≡ false)
    → documents_of_both ls (documents_with_all es ds) ≡ documents_with_all es (documents_of_both ls ds)
joined_all ls [] ds unowned = refl
joined_all ls (e ∷ es) ds unowned =
    joined_all ls es (documents_with e ds) (λ x c. unowned x (is_later e x es c))
    ∙ ap (documents_with_all es) (joined_placed ls e ds (unowned e (is_first e es)))
