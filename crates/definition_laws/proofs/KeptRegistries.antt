-- What holds of a registry holds after a request.
use Rattle.std.proofs.Common.{◌≡◌, Ok, Err, Result, ℕ, ◌≤◌, Bool, false, not, List, [], length, None, Contains, sum_by, filter, refl, sym, subst, inl, inr, arith}
use Rattle.std.proofs.lemmas.Bool.{ltb-false}
use Rattle.std.proofs.lemmas.List.Filters.{sum_by-filter_both}
use Rattle.std.specs.List.Sorted.{IsStrictlySortedBy}
use Rattle.definitions.specs.Values.{Text, Value, same_text}
use Rattle.definitions.specs.Faults.{Fault}
use Rattle.definitions.specs.Texts.{text}
use Rattle.definitions.specs.Resolution.{base_form}
use Rattle.definitions.specs.Schemas.{Document, document_from}
use Rattle.definitions.specs.Documents.{others_of, documents_with, bytes_of, documents_with_all}
use Rattle.definitions.specs.Registries.{Registry, documents_seen, is_in_library, Request, Reply, put_refusal, body_value}
use Rattle.definitions.specs.Searches.{Search}
use Rattle.definitions.specs.Batches.{Entry, Numbered, batch_entries, entry_documents, batch_refusal, library_from, library_by, library_of}
use Rattle.definitions.specs.Steps.{step}
use Rattle.definitions.specs.Runs.{Course}
use Rattle.definitions.specs.Keeping.{AreKept, IsKept}
use Rattle.definitions.specs.Tenants.{Tenant, empty_registry}
use Rattle.definition_laws.specs.Keeping.{IsBaseForm, HaveBaseForms, IsBodyValue, HaveBodyValues}
use Rattle.definition_laws.proofs.Membership.{nothing_in, from_filter, filter_short}
use Rattle.definition_laws.proofs.Steps.{step_keeps, course_keeps}
use Rattle.definition_laws.proofs.PlacedDocuments.{from_placed}
use Rattle.definition_laws.proofs.AcceptedDocuments.{accepted, free_of_others}
use Rattle.definition_laws.proofs.JoinedDocuments.{ascend_placed, ascend_part, ascend_all, joined_alone, from_all}
use Rattle.definition_laws.proofs.SeenDocuments.{puts, deletes, batches}
use Rattle.definition_laws.proofs.KeptDocuments.{part_kept, added_kept, batch_kept, none_kept}
use Rattle.definition_laws.proofs.AcceptedBatches.{AreFree, entered, granted, library_free}
use Rattle.definition_laws.proofs.BatchValues.{body_formed, entry_formed}

-- ---- a document that is put
put_kept : (search : Search) (g : Registry) (b : Text) (v : Value) → IsKept search g → put_refusal search g (document_from b v) (documents_with (document_from b v) g.documents) ≡ None
    → IsKept search (record g { documents = documents_with (document_from b v) g.documents })
put_kept search g b v kept none =
    let d = document_from b v in
    let fine = accepted search g d (documents_with d g.documents) none in
    record {
      ordered = ascend_placed d g.documents kept.ordered;
      few = ltb-false g.most_documents (length (documents_with d g.documents)) fine.few;
      small = ltb-false g.most_bytes (bytes_of (documents_with d g.documents)) fine.small;
      apart = λ e c. elim (from_placed d e g.documents c) [
        | inl itself ↦ subst (λ (x : Document). is_in_library g x.canonical ≡ false) itself fine.unowned
        | inr other ↦ kept.apart e other
      ];
      seen = subst (AreKept search) (sym (puts g d fine.unowned))
          (added_kept search d (documents_seen g) kept.seen (record { named = refl; scanned = fine.scanned; regular = fine.regular })
          (λ e c other. free_of_others (documents_seen g) d e fine.free c other));
    }

-- ---- fewer documents
fewer : {X : Type 0} (f : X → ℕ) (p : X → Bool) (xs : List X) → sum_by f (filter p xs) ≤ sum_by f xs
fewer f p xs = omega (arith, sum_by-filter_both p (λ x. not (p x)) (λ x. refl) f xs)

fewer_bytes : (p : Document → Bool) (ds : List Document) → bytes_of (filter p ds) ≤ bytes_of ds
fewer_bytes p ds = fewer (λ (d : Document). length (text d.value)) p ds

delete_kept : (search : Search) (g : Registry) (b : Text) → IsKept search g → is_in_library g b ≡ false → IsKept search (record g { documents = others_of b g.documents })
delete_kept search g b kept unowned =
    let others = λ (d : Document). not (same_text b d.canonical) in
    record {
      ordered = ascend_part others g.documents kept.ordered;
      few = omega (arith, kept.few, filter_short others g.documents);
      small = omega (arith, kept.small, fewer_bytes others g.documents);
      apart = λ d c. kept.apart d (from_filter others d g.documents c).0;
      seen = subst (AreKept search) (sym (deletes search g b kept unowned)) (part_kept search others (documents_seen g) kept.seen);
    }

-- ---- several documents
all_put_kept : (search : Search) (g : Registry) (es : List Entry) (ds : List Document) → IsKept search g → entry_documents search 0 es ≡ Ok ds
    → batch_refusal g ds (documents_with_all ds g.documents) ≡ None → IsKept search (record g { documents = documents_with_all ds g.documents })
all_put_kept search g es ds kept made none =
    let after = documents_with_all ds g.documents in
    let fine = granted g ds after none in
    record {
      ordered = ascend_all ds g.documents kept.ordered;
      few = ltb-false g.most_documents (length after) fine.few;
      small = ltb-false g.most_bytes (bytes_of after) fine.small;
      apart = λ d c. elim (from_all ds g.documents d c) [
        | inl new ↦ fine.unowned d new
        | inr old ↦ kept.apart d old
      ];
      seen = subst (AreKept search) (sym (batches g ds fine.unowned))
          (batch_kept search ds (documents_seen g) kept.seen (λ d c. (entered search 0 es ds made d c).fine)
          (subst (λ all. AreFree all ds) (batches g ds fine.unowned) fine.free).free fine.free.once);
    }

-- ---- every request
pub step_kept : (search : Search) (g : Registry) (q : Request) → IsKept search g → IsKept search (step search g q).1
step_kept search g q kept =
    step_keeps (IsKept search) search g kept (record {
      by_put = λ uri b body v is_base was_read none. put_kept search g b v kept none;
      by_delete = λ b unowned. delete_kept search g b kept unowned;
      by_batch = λ bytes es ds read made none. all_put_kept search g es ds kept made none;
    }) q

pub course_kept : (search : Search) (g h : Registry) (qs : List Request) (rs : List Reply) → Course search g qs rs h → IsKept search g → IsKept search h
course_kept search = course_keeps (IsKept search) search (step_kept search)

-- ---- what holds of each document that is put holds of each that is seen
module _ (P : Document → Type 0) where
  abbrev pub Have : List Document → Type 0
  Have ds = (d : Document) → Contains ds d → P d

  step_have : (search : Search) (g : Registry) (q : Request) → IsKept search g → Have (documents_seen g)
      → ((uri b body : Text) (v : Value) → base_form uri ≡ Ok b → body_value body ≡ Ok v → P (document_from b v))
      → ((bytes : Text) (es : List Entry) (ds : List Document) → batch_entries bytes ≡ Ok es → entry_documents search 0 es ≡ Ok ds → Have ds)
      → Have (documents_seen (step search g q).1)
  step_have search g q kept held one all =
      step_keeps (λ h. Have (documents_seen h)) search g held (record {
        by_put = λ uri b body v is_base was_read none d c.
            elim (from_placed (document_from b v) d (documents_seen g) (subst (λ ds. Contains ds d) (puts g (document_from b v) (accepted search g (document_from b v) _ none).unowned) c)) [
              | inl itself ↦ subst P itself (one uri b body v is_base was_read)
              | inr other ↦ held d other
            ];
        by_delete = λ b unowned d c.
            held d (from_filter (λ x. not (same_text b x.canonical)) d (documents_seen g) (subst (λ ds. Contains ds d) (deletes search g b kept unowned) c)).0;
        by_batch = λ bytes es ds read made none d c. elim (from_all ds (documents_seen g) d (subst (λ xs. Contains xs d) (batches g ds (granted g ds (documents_with_all ds g.documents) none).unowned) c)) [
          | inl new ↦ all bytes es ds read made d new
          | inr old ↦ held d old
        ];
      }) q

-- ---- the values
entered_values : (search : Search) (bytes : Text) (es : List Entry) (ds : List Document) → batch_entries bytes ≡ Ok es → entry_documents search 0 es ≡ Ok ds → HaveBodyValues ds
entered_values search bytes es ds read made d c =
    let from = entered search 0 es ds made d c in
    subst IsBodyValue from.is_value (entry_formed bytes es from.entry read from.inside)

pub values_kept : (search : Search) (g : Registry) (q : Request) → IsKept search g → HaveBodyValues (documents_seen g) → HaveBodyValues (documents_seen (step search g q).1)
values_kept search g q kept held =
    step_have (λ d. IsBodyValue d.value) search g q kept held (λ uri b body v is_base was_read. body_formed body v was_read) (entered_values search)

pub course_values_kept : (search : Search) (g h : Registry) (qs : List Request) (rs : List Reply) → Course search g qs rs h → IsKept search g
    → HaveBodyValues (documents_seen g) → HaveBodyValues (documents_seen h)
course_values_kept search g h qs rs course kept held =
    (course_keeps (λ i. IsKept search i × HaveBodyValues (documents_seen i)) search
    (λ i q before. (step_kept search i q before.0, values_kept search i q before.0 before.1)) g h qs rs course (kept, held)).1

-- ---- the bases
entered_bases : (search : Search) (bytes : Text) (es : List Entry) (ds : List Document) → batch_entries bytes ≡ Ok es → entry_documents search 0 es ≡ Ok ds → HaveBaseForms ds
entered_bases search bytes es ds read made d c =
    let from = entered search 0 es ds made d c in
    record { uri = from.entry.uri; is = from.is_base }

pub bases_kept : (search : Search) (g : Registry) (q : Request) → IsKept search g → HaveBaseForms (documents_seen g) → HaveBaseForms (documents_seen (step search g q).1)
bases_kept search g q kept held =
    step_have (λ d. IsBaseForm d.base) search g q kept held (λ uri b body v is_base was_read. record { uri = uri; is = is_base }) (entered_bases search)

pub course_bases_kept : (search : Search) (g h : Registry) (qs : List Request) (rs : List Reply) → Course search g qs rs h → IsKept search g
    → HaveBaseForms (documents_seen g) → HaveBaseForms (documents_seen h)
course_bases_kept search g h qs rs course kept held =
    (course_keeps (λ i. IsKept search i × HaveBaseForms (documents_seen i)) search
    (λ i q before. (step_kept search i q before.0, bases_kept search i q before.0 before.1)) g h qs rs course (kept, held)).1

-- ---- from a library and an empty registry on
pub entries_give : (search : Search) (r : Result (List Entry) Fault) (library : List Document) → library_by search r ≡ Ok library
    → (es : List Entry) × ((r ≡ Ok es) × (library_from (entry_documents search 0 es) ≡ Ok library))
entries_give search (Ok es) library e = (es, (refl, e))
entries_give search (Err f) library e = cc

pub documents_give : (r : Result (List Document) Numbered) (library : List Document) → library_from r ≡ Ok library
    → (ds : List Document) × ((r ≡ Ok ds) × ((documents_with_all ds [] ≡ library) × AreFree (documents_with_all ds []) ds))
documents_give (Ok ds) library e = (ds, (refl, library_free ds library e))
documents_give (Err (k, f)) library e = cc

pub library_kept : (search : Search) (bytes : Text) (library : List Document) → library_of search bytes ≡ Ok library
    → AreKept search library × (HaveBodyValues library × HaveBaseForms library)
library_kept search bytes library e =
    let es = entries_give search (batch_entries bytes) library e in
    let ds = documents_give (entry_documents search 0 es.0) library es.1.1 in
    let kept = batch_kept search ds.0 [] (none_kept search) (λ d c. (entered search 0 es.0 ds.0 ds.1.0 d c).fine) ds.1.1.1.free ds.1.1.1.once in
    let new : (d : Document) → Contains library d → Contains ds.0 d = λ d c. elim (from_all ds.0 [] d (subst (λ xs. Contains xs d) (sym ds.1.1.0) c)) [
      | inl there ↦ there
      | inr nowhere ↦ absurd (nothing_in d nowhere)
    ] in (
      subst (AreKept search) ds.1.1.0 kept,
      (λ d c. entered_values search bytes es.0 ds.0 es.1.0 ds.1.0 d (new d c), λ d c. entered_bases search bytes es.0 ds.0 es.1.0 ds.1.0 d (new d c)),
    )

pub seen_at_first : (search : Search) (library : List Document) (t : Tenant) → AreKept search library → documents_seen (empty_registry library t) ≡ library
seen_at_first search library t kept = joined_alone library kept.ordered

pub empty_kept : (search : Search) (library : List Document) (t : Tenant) → AreKept search library → IsKept search (empty_registry library t)
unfolding IsStrictlySortedBy
empty_kept search library t kept = record {
  ordered = tt;
  few = omega arith;
  small = omega arith;
  apart = λ d c. absurd (nothing_in d c);
  seen = subst (AreKept search) (sym (seen_at_first search library t kept)) kept;
}
