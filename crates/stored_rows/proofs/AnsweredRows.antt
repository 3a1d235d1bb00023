-- The rows of registries after a call.
use Rattle.std.proofs.Common.{◌≡◌, Bool, true, false, cond, List, [], ◌∷◌, Contains, Option, Some, None, Result, Ok, Err, is_some, map, option_and_then, sym, refl, ap, ◌∙◌, subst, inl, inr}
use Rattle.std.proofs.lemmas.Bool.{or_parts}
use Rattle.std.specs.List.{list_any}
use Rattle.definitions.specs.Answers.{answer}
use Rattle.definitions.specs.Applied.{Outcome}
use Rattle.definitions.specs.Batches.{Entry, Numbered, batch_entries, batch_refusal, each_stored, entry_documents, for_documents, for_entries}
use Rattle.definitions.specs.Bundles.{bundle}
use Rattle.definitions.specs.Documents.{document_of, documents_with, documents_with_all, others_of}
use Rattle.definitions.specs.Documents as documents
use Rattle.definitions.specs.Faults.{Fault, library_owned, not_found}
use Rattle.definitions.specs.Lists.{has_repeat}
use Rattle.definitions.specs.Reach.{reach}
use Rattle.definitions.specs.Registries.{Registry, Reply, Request, batch, body_value, bundled_from, bundling_reply, decision, delete, deleted, documents_seen, for_base, for_value, is_in_library, linked_reply, outcome_reply, put, put_refusal, refused, refused_at, reply_of_bundle, stored, stored_all, unless_missing, validate, validation}
use Rattle.definitions.specs.Resolution.{base_form}
use Rattle.definitions.specs.Runs.{IsForRoom}
use Rattle.definitions.specs.Schemas.{Document, document_from}
use Rattle.definitions.specs.Searches.{Search}
use Rattle.definitions.specs.Services.{KeyedRegistry, call_at, registry_of, with_registry}
use Rattle.definitions.specs.Steps.{step}
use Rattle.definitions.specs.Values.{Text, Value, same_text}
use Rattle.lemmas.proofs.Texts.{same_text_is, same_text_itself}
use Rattle.definition_laws.specs.Services.{AreAllKept}
use Rattle.definition_laws.proofs.AcceptedBatches.{granted}
use Rattle.definition_laws.proofs.JoinedDocuments.{ascend_all, ascend_placed, first_apart, in_all}
use Rattle.definition_laws.proofs.Membership.{nothing_in, is_first, is_later, first_or_later, found_some, found_there}
use Rattle.definition_laws.proofs.PlacedDocuments.{key_of, placed_itself}
use Rattle.definition_laws.proofs.Resources.{same_text-unlike}
use Rattle.stored_rows.specs.Laws.{CallsChangeRows}
use Rattle.stored_rows.specs.Restoring.{HaveDistinctDigests}
use Rattle.stored_rows.specs.Rows.{Row, document_at, row_of, rows_after, rows_of, with_document, with_each, with_row}
use Rattle.stored_rows.proofs.ChangedRows.{batch_rows, delete_rows, one_document, own_ascend, put_rows, rows_of_documents, with_rows}
use Rattle.stored_rows.proofs.KeyedRegistries.{own_after, with_own}
use Rattle.stored_rows.proofs.KeyedRegistries as keyed
use Rattle.stored_rows.proofs.RegistryRows.{AllAscend}

-- ---- what is found by its canonical URI
pub found_document : (ds : List Document) (d : Document) → documents.Ascend ds → Contains ds d → document_of ds d.canonical ≡ Some d
found_document ds d up c =
    let some_one : (z : Document) × (document_of ds d.canonical ≡ Some z) = found_some (λ (x : Document). same_text d.canonical x.canonical) d ds c (same_text_itself d.canonical) in
    let there = found_there (λ (x : Document). same_text d.canonical x.canonical) ds some_one.0 some_one.1 in
    some_one.1 ∙ ap Some (sym (one_document ds d some_one.0 up c there.0 (same_text_is d.canonical some_one.0.canonical there.1)))

pub document_there : (ls : List KeyedRegistry) (key : Text) (h : Registry) (d : Document) → registry_of ls key ≡ Some h → documents.Ascend h.documents → Contains h.documents d
    → document_at ls key d.canonical ≡ Some d
document_there ls key h d is up c = ap (option_and_then (λ (g : Registry). document_of g.documents d.canonical)) is ∙ found_document h.documents d up c

-- ---- every one of several is there, where no canonical URI stands twice
placed_all : (es ds : List Document) (d : Document) → has_repeat same_text (map key_of es) ≡ false → Contains es d → Contains (documents_with_all es ds) d
placed_all [] ds d once c = absurd (nothing_in d c)
placed_all (e ∷ es) ds d once c =
    let parts = or_parts (list_any (same_text e.canonical) (map key_of es)) (has_repeat same_text (map key_of es)) once in
    elim (first_or_later e d es c) [
      | inl same ↦
          subst (Contains (documents_with_all es (documents_with e ds))) same
          (in_all es (documents_with e ds) e (placed_itself e ds) (λ f k. same_text-unlike e.canonical f.canonical (first_apart e es parts.0 f k)))
      | inr later ↦ placed_all es (documents_with e ds) d parts.1 later
    ]

each_row : (ls : List KeyedRegistry) (key : Text) (g : Registry) (es : List Document) (rows : List Row) → ((d : Document) → Contains es d → document_at ls key d.canonical ≡ Some d)
    → with_each key ls (each_stored g es) rows ≡ with_rows (rows_of_documents key es) rows
each_row ls key g [] rows there = refl
each_row ls key g (e ∷ es) rows there =
    ap (λ o. with_each key ls (each_stored g es) (with_document key o rows)) (there e (is_first e es))
    ∙ each_row ls key g es (with_row (row_of key e) rows) (λ d c. there d (is_later e d es c))

-- ---- replies that change nothing
abbrev ChangesNothing : Text → Reply → Type 0
ChangesNothing key r = (ls : List KeyedRegistry) (rows : List Row) → rows_after key ls r rows ≡ rows

missing_nothing : (key : Text) (ds : List Document) (o : Option Text) (r : Reply) → ChangesNothing key r → ChangesNothing key (unless_missing ds o r)
missing_nothing key ds None r h = h
missing_nothing key ds (Some t) r h = λ ls rows. refl

linked_nothing : (key : Text) (ds : List Document) (r : Reply) → ChangesNothing key r → ChangesNothing key (linked_reply ds r)
linked_nothing key [] r h = λ ls rows. refl
linked_nothing key (d ∷ ds) r h = missing_nothing key (d ∷ ds) _ r h

outcome_nothing : (key : Text) (o : Result Outcome Fault) → ChangesNothing key (outcome_reply o)
outcome_nothing key (Ok o) = λ ls rows. refl
outcome_nothing key (Err f) = λ ls rows. refl

bundle_nothing : (key : Text) (o : Result Value Fault) → ChangesNothing key (reply_of_bundle o)
bundle_nothing key (Ok v) = λ ls rows. refl
bundle_nothing key (Err f) = λ ls rows. refl

either_nothing : (key : Text) (b : Bool) (r s : Reply) → ChangesNothing key r → ChangesNothing key s → ChangesNothing key (cond b r s)
either_nothing key true r s h k = h
either_nothing key false r s h k = k

validation_nothing : (key : Text) (search : Search) (b : Text) (x : Value) (reached : List Document) → ChangesNothing key (validation search b x reached)
validation_nothing key search b x reached =
    linked_nothing key reached (outcome_reply (answer search.matches reached b x)) (outcome_nothing key (answer search.matches reached b x))

bundling_nothing : (key b : Text) (reached : List Document) → ChangesNothing key (bundling_reply b reached)
bundling_nothing key b reached =
    either_nothing key (is_some (document_of reached b)) (linked_reply reached (reply_of_bundle (bundle reached b))) (refused not_found)
    (linked_nothing key reached (reply_of_bundle (bundle reached b)) (bundle_nothing key (bundle reached b))) (λ ls rows. refl)

-- ---- a step
module _ (search : Search) (ks : List KeyedRegistry) (key : Text) (g : Registry) (distinct : HaveDistinctDigests ks) (up : AllAscend ks) (is : registry_of ks key ≡ Some g) where
  -- the reply tells how the rows change
  abbrev IsTold : Reply × Registry → Type 0
  IsTold x = rows_of (with_registry ks key x.1) ≡ rows_after key (with_registry ks key x.1) x.0 (rows_of ks)

  unchanged : (r : Reply) → ChangesNothing key r → IsTold (r, g)
  unchanged r h = ap rows_of (with_own ks key g is) ∙ sym (h (with_registry ks key g) (rows_of ks))

  refusal : (f : Fault) → IsTold (refused f, g)
  refusal f = unchanged (refused f) (λ ls rows. refl)

  for_base_told : (r : Result Text Fault) (next : Text → Reply × Registry) → ((b : Text) → IsTold (next b)) → IsTold (for_base g r next)
  for_base_told (Ok b) next h = h b
  for_base_told (Err f) next h = refusal f

  for_value_told : (r : Result Value Fault) (next : Value → Reply × Registry) → ((v : Value) → IsTold (next v)) → IsTold (for_value g r next)
  for_value_told (Ok v) next h = h v
  for_value_told (Err f) next h = refusal f

  decided : (o : Option Fault) (r : Reply) (after : Registry) → (o ≡ None → IsTold (r, after)) → IsTold (decision o r after g)
  decided None r after h = h refl
  decided (Some f) r after h = refusal f

  sorted : documents.Ascend g.documents
  sorted = own_ascend ks key g up is

  stored_told : (d : Document) (was : Bool) → IsTold (stored d.canonical was, record g { documents = documents_with d g.documents })
  stored_told d was =
      let h : Registry = record g { documents = documents_with d g.documents } in
      put_rows ks key g distinct up is d
      ∙ ap (λ o. with_document key o (rows_of ks))
      (sym (document_there (with_registry ks key h) key h d (own_after ks key g h is) (ascend_placed d g.documents sorted) (placed_itself d g.documents)))

  batch_told : (es : List Document) → batch_refusal g es (documents_with_all es g.documents) ≡ None → IsTold (stored_all (each_stored g es), record g { documents = documents_with_all es g.documents })
  batch_told es none =
      let after = documents_with_all es g.documents in
      let h : Registry = record g { documents = after } in
      batch_rows ks key g es distinct up is
      ∙ sym (each_row (with_registry ks key h) key g es (rows_of ks) (λ d c.
      document_there (with_registry ks key h) key h d (own_after ks key g h is) (ascend_all es g.documents sorted) (placed_all es g.documents d (granted g es after none).free.once c)))

  deleted_told : (uri : Text) (owned there : Bool)
      → IsTold (cond {A = Reply × Registry} owned (refused library_owned, g) (cond {A = Reply × Registry} there (deleted uri, record g { documents = others_of uri g.documents }) (refused not_found, g)))
  deleted_told uri true there = refusal library_owned
  deleted_told uri false true = delete_rows ks key g distinct up is uri
  deleted_told uri false false = refusal not_found

  for_documents_told : (r : Result (List Document) Numbered) → IsTold (for_documents g r)
  for_documents_told (Ok es) = decided (batch_refusal g es (documents_with_all es g.documents)) _ _ (batch_told es)
  for_documents_told (Err (k, f)) = unchanged (refused_at k f) (λ ls rows. refl)

  for_entries_told : (r : Result (List Entry) Fault) → IsTold (for_entries search g r)
  for_entries_told (Ok es) = for_documents_told (entry_documents search 0 es)
  for_entries_told (Err f) = refusal f

  told : (q : Request) → IsTold (step search g q)
  told (put uri body) = for_base_told (base_form uri) _ (λ b. for_value_told (body_value body) _ (λ v.
      decided (put_refusal search g (document_from b v) (documents_with (document_from b v) g.documents)) _ _
      (λ none. stored_told (document_from b v) (is_some (document_of g.documents (document_from b v).canonical)))))
  told (delete uri) = for_base_told (base_form uri) _ (λ b. deleted_told b (is_in_library g b) (is_some (document_of g.documents b)))
  told (validate uri body) = for_base_told (base_form uri) _ (λ b. for_value_told (body_value body) _ (λ x.
      unchanged (validation search b x (reach (documents_seen g) b)) (validation_nothing key search b x (reach (documents_seen g) b))))
  told (bundled_from uri) = for_base_told (base_form uri) _ (λ b.
      unchanged (bundling_reply b (reach (documents_seen g) b)) (bundling_nothing key b (reach (documents_seen g) b)))
  told (batch bytes) = for_entries_told (batch_entries bytes)

-- ---- a call
pub all_ascend : (search : Search) (ks : List KeyedRegistry) → HaveDistinctDigests ks → AreAllKept search ks → AllAscend ks
all_ascend search ks distinct kept k c = (kept k.key k.registry (keyed.found_there ks k distinct c)).ordered

call_told : (search : Search) (ks : List KeyedRegistry) (key : Text) (q : Request) (o : Option Registry) → HaveDistinctDigests ks → AllAscend ks → registry_of ks key ≡ o
    → let after = call_at search ks (key, q) o in rows_of after.1 ≡ rows_after key after.1 after.0 (rows_of ks)
call_told search ks key q None distinct up is = refl
call_told search ks key q (Some g) distinct up is = told search ks key g distinct up is q

for_room_nothing : (search : Search) (key : Text) (q : Request) (r : Reply) → IsForRoom search q r → ChangesNothing key r
for_room_nothing search key q r (inl none) = λ ls rows. ap (λ x. rows_after key ls x rows) none
for_room_nothing search key q r (inr (inl pattern)) = λ ls rows. ap (λ x. rows_after key ls x rows) pattern.0
for_room_nothing search key q r (inr (inr entry)) = λ ls rows. ap (λ x. rows_after key ls x rows) entry.1

pub calls_change_rows : CallsChangeRows
calls_change_rows search ks ls key q r distinct kept (inl s) =
    let after = call_at search ks (key, q) (registry_of ks key) in
    subst (λ ms. rows_of ms ≡ rows_after key ms r (rows_of ks)) (sym s.1)
    (subst (λ x. rows_of after.1 ≡ rows_after key after.1 x (rows_of ks)) (sym s.0)
    (call_told search ks key q (registry_of ks key) distinct (all_ascend search ks distinct kept) refl))
calls_change_rows search ks ls key q r distinct kept (inr s) = ap rows_of s.2 ∙ sym (for_room_nothing search key q r s.1 ls (rows_of ks))
