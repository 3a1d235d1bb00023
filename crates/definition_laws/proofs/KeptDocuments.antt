-- Documents that are kept stay so where some are left out, one is added, or several are.
use Rattle.std.proofs.Common.{◌≡◌, Bool, true, false, List, [], ◌∷◌, map, Contains, filter, flat_map, None, Equal, refl, sym, ap, subst, inl, inr}
use Rattle.std.proofs.lemmas.Bool.{or_parts}
use Rattle.std.proofs.lemmas.Cmp.{nat_list_cmp_total}
use Rattle.std.specs.Cmp.Lexicographic.{slice_cmp}
use Rattle.std.specs.List.{list_any}
use Rattle.std.specs.List.Sorted.{IsStrictlySortedBy}
use Rattle.std.specs.Ordering.{nat_cmp}
use Rattle.definitions.specs.Values.{same_text}
use Rattle.definitions.specs.Lists.{has_repeat, first}
use Rattle.definitions.specs.Schemas.{Document, document_from}
use Rattle.definitions.specs.Scanning.{scan_faults}
use Rattle.definitions.specs.Searches.{Search, is_regular}
use Rattle.definitions.specs.Documents.{documents_with, resources_of, documents_with_all, Ascend}
use Rattle.definitions.specs.Keeping.{AreKept}
use Rattle.definition_laws.proofs.Membership.{nothing_in, is_first, is_later, from_filter}
use Rattle.definition_laws.proofs.Repeats.{AreApart, filtered}
use Rattle.definition_laws.proofs.Resources.{same_text-unlike}
use Rattle.definition_laws.proofs.Placing.{distinct}
use Rattle.definition_laws.proofs.PlacedDocuments.{key_of, as_inserted, from_placed}
use Rattle.definition_laws.proofs.AcceptedDocuments.{scanned}
use Rattle.definition_laws.proofs.JoinedDocuments.{ascend_part, ascend_placed, outside, from_outside, outside_rest, in_all}

-- a document with no fault, and none in its patterns
pub record IsFine (search : Search) (d : Document) : Type 0 where
  pub named : d ≡ document_from d.base d.value
  pub scanned : scan_faults d.base d.value ≡ []
  pub regular : is_regular search d.value ≡ true

-- none of its URIs is one of a document with another canonical URI
abbrev pub IsFree : Document → List Document → Type 0
IsFree d ds = (e : Document) → Contains ds e → (slice_cmp nat_cmp d.canonical e.canonical ≡ Equal → ⊥) → AreApart same_text (resources_of d) (resources_of e)

pub part_kept : (search : Search) (p : Document → Bool) (ds : List Document) → AreKept search ds → AreKept search (filter p ds)
part_kept search p ds kept = record {
  ordered = ascend_part p ds kept.ordered;
  named = λ d c. kept.named d (from_filter p d ds c).0;
  distinct = filtered same_text resources_of p ds kept.distinct;
  scanned = λ d c. kept.scanned d (from_filter p d ds c).0;
  regular_patterns = λ d c. kept.regular_patterns d (from_filter p d ds c).0;
}

pub added_kept : (search : Search) (d : Document) (ds : List Document) → AreKept search ds → IsFine search d → IsFree d ds → AreKept search (documents_with d ds)
added_kept search d ds kept fine free = record {
  ordered = ascend_placed d ds kept.ordered;
  named = λ e c. elim (from_placed d e ds c) [
    | inl itself ↦ subst (λ x. x ≡ document_from x.base x.value) itself fine.named
    | inr other ↦ kept.named e other
  ];
  distinct = subst (λ es. has_repeat same_text (flat_map resources_of es) ≡ false) (as_inserted d ds)
      (distinct (slice_cmp nat_cmp) nat_list_cmp_total key_of same_text same_text-unlike resources_of d ds kept.ordered
      (scanned d fine.scanned).uris kept.distinct free);
  scanned = λ e c. elim (from_placed d e ds c) [
    | inl itself ↦ subst (λ x. first (scan_faults x.base x.value) ≡ None) itself (ap first fine.scanned)
    | inr other ↦ kept.scanned e other
  ];
  regular_patterns = λ e c. elim (from_placed d e ds c) [
    | inl itself ↦ subst (λ x. is_regular search x.value ≡ true) itself fine.regular
    | inr other ↦ kept.regular_patterns e other
  ];
}

-- several, each free of what is there in the end: one after the other goes among those that stay
all_kept : (search : Search) (es ds : List Document) → Ascend ds → AreKept search (outside es ds) → ((e : Document) → Contains es e → IsFine search e)
    → ((e : Document) → Contains es e → IsFree e (documents_with_all es ds)) → has_repeat same_text (map key_of es) ≡ false → AreKept search (documents_with_all es ds)
all_kept search [] ds sorted kept fine free once = kept
all_kept search (e ∷ es) ds sorted kept fine free once =
    let apart = or_parts (list_any (same_text e.canonical) (map key_of es)) (has_repeat same_text (map key_of es)) once in
    all_kept search es (documents_with e ds) (ascend_placed e ds sorted)
    (subst (AreKept search) (sym (outside_rest e es ds apart.0 sorted))
    (added_kept search e (outside (e ∷ es) ds) kept (fine e (is_first e es))
    (λ x c. free e (is_first e es) x (let there = from_outside (e ∷ es) ds x c in in_all (e ∷ es) ds x there.0 there.1))))
    (λ x c. fine x (is_later e x es c)) (λ x c. free x (is_later e x es c)) apart.1

outside_kept : (search : Search) (es ds : List Document) → AreKept search ds → AreKept search (outside es ds)
outside_kept search [] ds kept = kept
outside_kept search (e ∷ es) ds kept = part_kept search _ (outside es ds) (outside_kept search es ds kept)

pub batch_kept : (search : Search) (es ds : List Document) → AreKept search ds → ((e : Document) → Contains es e → IsFine search e)
    → ((e : Document) → Contains es e → IsFree e (documents_with_all es ds)) → has_repeat same_text (map key_of es) ≡ false → AreKept search (documents_with_all es ds)
batch_kept search es ds kept = all_kept search es ds kept.ordered (outside_kept search es ds kept)

pub none_kept : (search : Search) → AreKept search []
unfolding IsStrictlySortedBy
none_kept search = record {
  ordered = tt;
  named = λ d c. absurd (nothing_in d c);
  distinct = refl;
  scanned = λ d c. absurd (nothing_in d c);
  regular_patterns = λ d c. absurd (nothing_in d c);
}
