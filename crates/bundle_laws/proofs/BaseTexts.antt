-- The documents of a registry stand under URIs in UTF-8, where each put's URI is.
use Rattle.std.proofs.Common.{◌≡◌, true, not, List, [], ◌∷◌, is_some, Ok, Contains, sym, subst, inl, inr}
use Rattle.std.specs.Str.{is_utf8}
use Rattle.definitions.specs.Values.{Text, same_text}
use Rattle.definitions.specs.Resolution.{base_form}
use Rattle.definitions.specs.Schemas.{Document, document_from}
use Rattle.definitions.specs.Documents.{document_of, documents_with, documents_with_all}
use Rattle.definitions.specs.Reach.{reach}
use Rattle.definitions.specs.Registries.{Registry, documents_seen, is_in_library, put, delete, validate, bundled_from, batch, put_refusal, body_value}
use Rattle.definitions.specs.Searches.{Search}
use Rattle.definitions.specs.Batches.{Entry, batch_entries, entry_documents}
use Rattle.definitions.specs.Steps.{step}
use Rattle.definition_laws.proofs.Membership.{nothing_in, from_filter, is_first, is_later}
use Rattle.definition_laws.proofs.PlacedDocuments.{from_placed}
use Rattle.definition_laws.proofs.JoinedDocuments.{from_all}
use Rattle.definition_laws.proofs.AcceptedBatches.{entered}
use Rattle.definition_laws.proofs.BatchValues.{entry_text}
use Rattle.definition_laws.proofs.ReachedSets.{reach_as_filter}
use Rattle.definition_laws.proofs.KeptReaches.{reached_kept}
use Rattle.definition_laws.proofs.KeptRegistries.{step_kept, entries_give, documents_give}
use Rattle.definition_laws.proofs.SeenDocuments.{puts, deletes, batches}
use Rattle.definition_laws.proofs.AcceptedDocuments.{accepted}
use Rattle.definition_laws.proofs.AcceptedBatches.{granted}
use Rattle.definition_laws.proofs.Steps.{for_base_keeps, for_value_keeps, decided_keeps, found_keeps, deleted_keeps, for_entries_keeps}
use Rattle.bundle_laws.specs.Registered.{HaveBaseTexts, LibrariesHaveBaseTexts, StepsKeepBaseTexts, CoursesKeepBaseTexts, ReachedDocumentsAreRegistered}
use Rattle.bundle_laws.proofs.CanonicalTexts.{base_form_text}

entered_texts : (search : Search) (bytes : Text) (es : List Entry) (ds : List Document) → batch_entries bytes ≡ Ok es → entry_documents search 0 es ≡ Ok ds → HaveBaseTexts ds
entered_texts search bytes es ds read made d c =
    let from = entered search 0 es ds made d c in
    base_form_text from.entry.uri d.base (entry_text bytes es from.entry read from.inside) from.is_base

pub libraries_have_base_texts : LibrariesHaveBaseTexts
libraries_have_base_texts search bytes library e d c =
    let es = entries_give search (batch_entries bytes) library e in
    let ds = documents_give (entry_documents search 0 es.0) library es.1.1 in
    elim (from_all ds.0 [] d (subst (λ xs. Contains xs d) (sym ds.1.1.0) c)) [
      | inl there ↦ entered_texts search bytes es.0 ds.0 es.1.0 ds.1.0 d there
      | inr nowhere ↦ absurd (nothing_in d nowhere)
    ]

abbrev Holds : Registry → Type 0
Holds g = HaveBaseTexts (documents_seen g)

pub steps_keep_base_texts : StepsKeepBaseTexts
steps_keep_base_texts search g (put uri body) kept text held =
    for_base_keeps Holds g (base_form uri) _ (λ b is_base. for_value_keeps Holds g (body_value body) _ (λ v was_read.
    decided_keeps Holds (put_refusal search g (document_from b v) (documents_with (document_from b v) g.documents)) _ _ g
    (λ none d c. elim (from_placed (document_from b v) d (documents_seen g) (subst (λ ds. Contains ds d) (puts g (document_from b v) (accepted search g (document_from b v) (documents_with (document_from b v) g.documents) none).unowned) c)) [
      | inl itself ↦ subst (λ x. is_utf8 x.base ≡ true) itself (base_form_text uri b text is_base)
      | inr other ↦ held d other
    ]) held) held) held
steps_keep_base_texts search g (delete uri) kept text held =
    for_base_keeps Holds g (base_form uri) _ (λ b is_base. deleted_keeps Holds (is_in_library g b) _ _ g
    (λ unowned. found_keeps Holds (is_some (document_of g.documents b)) _ _ _ g (λ d c.
    held d (from_filter (λ x. not (same_text b x.canonical)) d (documents_seen g) (subst (λ ds. Contains ds d) (deletes search g b kept unowned) c)).0) held) held) held
steps_keep_base_texts search g (validate uri body) kept text held =
    for_base_keeps Holds g (base_form uri) _ (λ b is_base. for_value_keeps Holds g (body_value body) _ (λ v was_read. held) held) held
steps_keep_base_texts search g (bundled_from uri) kept text held = for_base_keeps Holds g (base_form uri) _ (λ b is_base. held) held
steps_keep_base_texts search g (batch bytes) kept text held =
    for_entries_keeps Holds search g (batch_entries bytes)
    (λ es ds read made none d c. elim (from_all ds (documents_seen g) d (subst (λ xs. Contains xs d) (batches g ds (granted g ds (documents_with_all ds g.documents) none).unowned) c)) [
      | inl new ↦ entered_texts search bytes es ds read made d new
      | inr old ↦ held d old
    ]) held

pub courses_keep_base_texts : CoursesKeepBaseTexts
courses_keep_base_texts search g h [] [] course kept texts held = subst Holds (sym course) held
courses_keep_base_texts search g h [] (r ∷ rs) course kept texts held = absurd course
courses_keep_base_texts search g h (q ∷ qs) [] course kept texts held = absurd course
courses_keep_base_texts search g h (q ∷ qs) (r ∷ rs) course kept texts held = elim course [
  | inl answered ↦
      courses_keep_base_texts search (step search g q).1 h qs rs answered.1 (step_kept search g q kept) (λ p c. texts p (is_later q p qs c))
      (steps_keep_base_texts search g q kept (texts q (is_first q qs)) held)
  | inr for_room ↦ courses_keep_base_texts search g h qs rs for_room.1 kept (λ p c. texts p (is_later q p qs c)) held
]

pub reached_documents_are_registered : ReachedDocumentsAreRegistered
reached_documents_are_registered search ds uri r =
    let part = reach_as_filter ds uri in
    let inside : (d : Document) → Contains (reach ds uri) d → Contains ds d = λ d c. (from_filter part.0 d ds (subst (λ es. Contains es d) part.1 c)).0 in
    record {
      kept = reached_kept search ds uri r.kept;
      body_values = λ d c. r.body_values d (inside d c);
      base_forms = λ d c. r.base_forms d (inside d c);
      base_texts = λ d c. r.base_texts d (inside d c);
    }
