-- A document that is put back into its registry, of which some documents are left out.
use Rattle.std.proofs.Common.{◌≡◌, ◌⊎◌, ◌||◌, ◌≤◌, Bool, true, false, not, List, [], ◌∷◌, Contains, filter, None, is_some, length, nat_lt, Less, Equal, sym, refl, ap, ◌∙◌, subst, inl, inr, true≢false, arith}
use Rattle.std.proofs.lemmas.Bool.{and_from, and_parts, false_from_ne_true, le-ltb, ltb-false, not-true}
use Rattle.std.proofs.lemmas.Cmp.{nat_list_cmp_total}
use Rattle.std.proofs.lemmas.List.Filters.{sum_by-filter_both}
use Rattle.std.specs.Cmp.Lexicographic.{bytes_decides, slice_cmp}
use Rattle.std.specs.List.{list_any}
use Rattle.std.specs.Ordering.{nat_cmp}
use Rattle.definitions.specs.Documents.{bytes_of, document_of, documents_of_both, documents_with, others_of, resources_of, taken_uri}
use Rattle.definitions.specs.Documents as documents
use Rattle.definitions.specs.Keeping.{IsKept}
use Rattle.definitions.specs.Limits.{limits}
use Rattle.definitions.specs.Reach.{holds_resource, least}
use Rattle.definitions.specs.Registries.{Registry, decision, documents_seen, is_in_library, put_into, put_refusal, stored}
use Rattle.definitions.specs.Scanning.{scan_faults}
use Rattle.definitions.specs.Schemas.{Document, document_from, schemas_of}
use Rattle.definitions.specs.Searches.{Search, is_regular}
use Rattle.definitions.specs.Texts.{text}
use Rattle.definitions.specs.Values.{Text, nesting, same_text}
use Rattle.lemmas.proofs.Texts.{same_text_is, same_text_itself}
use Rattle.definition_laws.specs.Keeping.{IsBaseForm, IsBodyValue}
use Rattle.definition_laws.proofs.AcceptedDocuments.{first_none, scanned}
use Rattle.definition_laws.proofs.JoinedDocuments.{ascend_joined, ascend_part, ascend_placed, is_other}
use Rattle.definition_laws.proofs.Membership.{is_first, is_later, filter_short, from_filter, found_none, in_filter}
use Rattle.definition_laws.proofs.PlacedDocuments.{from_placed, in_placed, key_of, placed_itself}
use Rattle.definition_laws.proofs.Placing.{same_ascending}
use Rattle.definition_laws.proofs.Repeats.{any_none}
use Rattle.definition_laws.proofs.Resources as resources
use Rattle.definition_laws.proofs.Resources.{opened_is_root}
use Rattle.bundle_laws.proofs.Identified.{base_identifier, form_of_identifier}
use Rattle.bundle_laws.proofs.ReadBack.{text_read_back}
use Rattle.bundle_laws.proofs.StoredBundles.{no_refusal}
use Rattle.stored_rows.specs.Restoring.{PutsBack}
use Rattle.stored_rows.specs.Rows.{Ascend, Row, digest, is_row_at, row_cmp, row_of}
use Rattle.stored_rows.proofs.ChangedRows.{one_document}
use Rattle.stored_rows.proofs.RowOrder.{below, rows_tie}

-- ---- lists
pub none_left : {X : Type 0} (p : X → Bool) (xs : List X) → ((x : X) → Contains xs x → p x ≡ false) → filter p xs ≡ []
none_left p [] h = refl
none_left p (x ∷ xs) h = rw (h x (is_first x xs)) (none_left p xs (λ y c. h y (is_later x y xs c)))

not_either : (a b : Bool) → not (a || b) ≡ true → (a ≡ false) × (b ≡ false)
not_either true b e = absurd (true≢false (sym e))
not_either false b e = (refl, not-true b e)

neither : (a b : Bool) → a ≡ false → b ≡ false → not (a || b) ≡ true
neither a b e h = rw (e, h) refl

-- ---- among a library's
own_seen : (ls ds : List Document) (d : Document) → is_some (document_of ls d.canonical) ≡ false → Contains ds d → Contains (documents_of_both ls ds) d
own_seen ls ds d none c = by ls (λ l k e. true≢false (sym ((bytes_decides d.canonical l.canonical).1 e) ∙ is_other ls d.canonical l none k))
  where
    by : (ms : List Document) → ((l : Document) → Contains ms l → d.canonical ≡ l.canonical → ⊥) → Contains (documents_of_both ms ds) d
    by [] apart = c
    by (l ∷ ms) apart = in_placed l d (documents_of_both ms ds) (apart l (is_first l ms)) (by ms (λ m k. apart m (is_later l m ms k)))

part_seen : (ls ds es : List Document) (d : Document) → documents.Ascend es → ((e : Document) → Contains es e → Contains ds e) → Contains (documents_of_both ls es) d
    → Contains (documents_of_both ls ds) d
part_seen [] ds es d up part c = part d c
part_seen (l ∷ ls) ds es d up part c = by (same_text l.canonical d.canonical) refl (from_placed l d (documents_of_both ls es) c) (part_seen ls ds es d up part)
  where
    by : (b : Bool) → same_text l.canonical d.canonical ≡ b → (l ≡ d) ⊎ Contains (documents_of_both ls es) d
        → (Contains (documents_of_both ls es) d → Contains (documents_of_both ls ds) d) → Contains (documents_of_both (l ∷ ls) ds) d
    by true same was more =
        let one : l ≡ d =
        one_document (documents_of_both (l ∷ ls) es) l d (ascend_placed l (documents_of_both ls es) (ascend_joined ls es up)) (placed_itself l (documents_of_both ls es)) c (same_text_is l.canonical d.canonical same) in
        subst (Contains (documents_with l (documents_of_both ls ds))) one (placed_itself l (documents_of_both ls ds))
    by false differ (inl same) more = subst (Contains (documents_with l (documents_of_both ls ds))) same (placed_itself l (documents_of_both ls ds))
    by false differ (inr there) more =
        in_placed l d (documents_of_both ls ds) (λ e. true≢false (sym ((bytes_decides l.canonical d.canonical).1 (sym e)) ∙ differ)) (more there)

-- ---- documents whose rows aren't among these
abbrev pub keeps : List Row → Text → Document → Bool
keeps rs key d = not (list_any (is_row_at (digest key) d.canonical) rs)

abbrev pub left_documents : List Row → Text → List Document → List Document
left_documents rs key = filter (keeps rs key)

pub row_there : (key : Text) (d : Document) → is_row_at (digest key) d.canonical (row_of key d) ≡ true
row_there key d = and_from (same_text (digest key) (digest key)) (same_text d.canonical d.canonical) (same_text_itself (digest key)) (same_text_itself d.canonical)

module _ (search : Search) (G : Registry) (key : Text) (d : Document) (rs : List Row) (kept : IsKept search G) (inside : Contains G.documents d) (up : Ascend (row_of key d ∷ rs)) where
  abbrev before : Registry
  before = record G { documents = left_documents (row_of key d ∷ rs) key G.documents }

  abbrev after : Registry
  after = record G { documents = left_documents rs key G.documents }

  -- ---- the list after the put
  itself_kept : keeps rs key d ≡ true
  itself_kept = ap not (any_none (is_row_at (digest key) d.canonical) rs (λ r c. false_from_ne_true (is_row_at (digest key) d.canonical r) (λ e.
      unlike (sym (below (row_of key d) r rs up c) ∙ tie r e))))
    where
      unlike : Less ≡ Equal → ⊥
      unlike e = cc

      tie : (r : Row) → is_row_at (digest key) d.canonical r ≡ true → row_cmp (row_of key d) r ≡ Equal
      tie r e =
          let both = and_parts (same_text (digest key) r.tenant) (same_text d.canonical r.uri) e in
          rows_tie (row_of key d) r (same_text_is (digest key) r.tenant both.0) (same_text_is d.canonical r.uri both.1)

  over : (e : Document) → Contains (documents_with d before.documents) e → Contains after.documents e
  over e c = elim (from_placed d e before.documents c) [
    | inl same ↦ subst (Contains after.documents) same (in_filter (keeps rs key) d G.documents inside itself_kept)
    | inr there ↦
        let old = from_filter (keeps (row_of key d ∷ rs) key) e G.documents there in
        in_filter (keeps rs key) e G.documents old.0
        (ap not (not_either (is_row_at (digest key) e.canonical (row_of key d)) (list_any (is_row_at (digest key) e.canonical) rs) old.1).1)
  ]

  under : (e : Document) → Contains after.documents e → Contains (documents_with d before.documents) e
  under e c = by (same_text e.canonical d.canonical) refl
    where
      old : Contains G.documents e × (keeps rs key e ≡ true)
      old = from_filter (keeps rs key) e G.documents c

      by : (b : Bool) → same_text e.canonical d.canonical ≡ b → Contains (documents_with d before.documents) e
      by true same =
          subst (Contains (documents_with d before.documents)) (one_document G.documents d e kept.ordered inside old.0 (sym (same_text_is e.canonical d.canonical same)))
          (placed_itself d before.documents)
      by false differ =
          in_placed d e before.documents (λ e'. true≢false (sym ((bytes_decides e.canonical d.canonical).1 e') ∙ differ))
          (in_filter (keeps (row_of key d ∷ rs) key) e G.documents old.0
          (neither (is_row_at (digest key) e.canonical (row_of key d)) (list_any (is_row_at (digest key) e.canonical) rs)
          (false_from_ne_true (is_row_at (digest key) e.canonical (row_of key d))
          (λ here. true≢false (sym (and_parts (same_text (digest key) (digest key)) (same_text e.canonical d.canonical) here).1 ∙ differ)))
          (not-true (list_any (is_row_at (digest key) e.canonical) rs) old.1)))

  placed : documents_with d before.documents ≡ after.documents
  placed =
      same_ascending (slice_cmp nat_cmp) nat_list_cmp_total key_of (documents_with d before.documents) after.documents
      (ascend_placed d before.documents (ascend_part (keeps (row_of key d ∷ rs) key) G.documents kept.ordered))
      (ascend_part (keeps rs key) G.documents kept.ordered) over under

  -- ---- nothing refuses it
  seen : Contains (documents_seen G) d
  seen = own_seen G.library G.documents d (kept.apart d inside) inside

  unheld : (u : Text) → Contains (resources_of d) u → list_any (holds_resource u) (others_of d.canonical (documents_seen before)) ≡ false
  unheld u c = any_none (holds_resource u) (others_of d.canonical (documents_seen before)) (λ e k. false_from_ne_true (holds_resource u e) (λ holds.
      let there = from_filter (λ (x : Document). not (same_text d.canonical x.canonical)) e (documents_seen before) k in
      let e_seen : Contains (documents_seen G) e =
      part_seen G.library G.documents before.documents e (ascend_part (keeps (row_of key d ∷ rs) key) G.documents kept.ordered)
      (λ x old. (from_filter (keeps (row_of key d ∷ rs) key) x G.documents old).0) there.0 in
      let same : d ≡ e =
      resources.one_document (documents_seen G) u d e kept.seen.distinct seen e_seen (opened_is_root (schemas_of d.base d.value) u u c (same_text_itself u)) holds in
      true≢false (sym (ap (λ (x : Document). same_text d.canonical x.canonical) (sym same) ∙ same_text_itself d.canonical) ∙ not-true (same_text d.canonical e.canonical) there.1)))

  free : taken_uri (documents_seen before) d ≡ None
  free = ap least (none_left (λ u. list_any (holds_resource u) (others_of d.canonical (documents_seen before))) (resources_of d) unheld)

  faultless : scan_faults d.base d.value ≡ []
  faultless = first_none (scan_faults d.base d.value) (kept.seen.scanned d seen)

  granted : put_refusal search before d (documents_with d before.documents) ≡ None
  granted =
      no_refusal (scan_faults d.base d.value) (is_regular search d.value) (is_in_library before d.canonical) (taken_uri (documents_seen before) d)
      (nat_lt G.most_documents (length (documents_with d before.documents))) (nat_lt G.most_bytes (bytes_of (documents_with d before.documents)))
      faultless (kept.seen.regular_patterns d seen) (kept.apart d inside) free
      (ap (λ ds. nat_lt G.most_documents (length ds)) placed ∙ le-ltb G.most_documents (length after.documents) (omega (arith, kept.few, filter_short (keeps rs key) G.documents)))
      (ap (λ ds. nat_lt G.most_bytes (bytes_of ds)) placed
      ∙ le-ltb G.most_bytes (bytes_of after.documents) (omega (arith, kept.small, sum_by-filter_both (keeps rs key) (λ x. not (keeps rs key x)) (λ x. refl) (λ (e : Document). length (text e.value)) G.documents)))

  absent : is_some (document_of before.documents d.canonical) ≡ false
  absent = ap is_some (found_none (λ (x : Document). same_text d.canonical x.canonical) before.documents (λ e c.
      let old = from_filter (keeps (row_of key d ∷ rs) key) e G.documents c in
      let apart = not_either (is_row_at (digest key) e.canonical (row_of key d)) (list_any (is_row_at (digest key) e.canonical) rs) old.1 in
      false_from_ne_true (same_text d.canonical e.canonical) (λ same.
      true≢false (sym (and_from (same_text (digest key) (digest key)) (same_text e.canonical d.canonical) (same_text_itself (digest key))
      ((bytes_decides e.canonical d.canonical).1 (sym (same_text_is d.canonical e.canonical same)))) ∙ apart.0))))

  put_is : put_into search before d ≡ (stored d.canonical false, after)
  put_is =
      ap (λ o. decision o (stored d.canonical (is_some (document_of before.documents d.canonical))) (record before { documents = documents_with d before.documents }) before) granted
      ∙ ap (λ b. (stored d.canonical b, record before { documents = documents_with d before.documents })) absent
      ∙ ap (λ ds. (stored d.canonical false, record G { documents = ds })) placed

  pub puts_back : IsBodyValue d.value → IsBaseForm d.base → PutsBack search before key (row_of key d) after
  puts_back value form =
      let named : d ≡ document_from d.base d.value = kept.seen.named d seen in
      let shallow : nesting d.value ≤ 127 = omega (arith, ltb-false limits.schema_nesting (nesting d.value) (scanned d faultless).shallow) in
      record {
        base = d.base;
        value = d.value;
        has_base = form_of_identifier d.base (base_identifier d.base form);
        has_value = text_read_back d.value value.well_formed shallow;
        puts = subst (λ x. put_into search before x ≡ (stored d.canonical false, after)) named put_is;
        has_row = ap (row_of key) (sym named);
      }
