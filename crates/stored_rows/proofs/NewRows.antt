-- A document that a reply calls new has no row before.
use Rattle.std.proofs.Common.{◌≡◌, Bool, true, false, cond, not, List, [], ◌∷◌, Contains, Option, Some, None, Result, Ok, Err, filter, is_some, sym, refl, ap, ◌∙◌, subst, inl, inr}
use Rattle.std.proofs.lemmas.Bool.{and_parts}
use Rattle.std.specs.Cmp.Lexicographic.{bytes_decides}
use Rattle.definitions.specs.Answers.{answer}
use Rattle.definitions.specs.Applied.{Outcome}
use Rattle.definitions.specs.Batches.{Entry, Numbered, batch_entries, batch_refusal, entry_documents, for_documents, for_entries}
use Rattle.definitions.specs.Bundles.{bundle}
use Rattle.definitions.specs.Documents.{document_of, documents_with, documents_with_all, others_of}
use Rattle.definitions.specs.Faults.{Fault, library_owned, not_found}
use Rattle.definitions.specs.Reach.{reach}
use Rattle.definitions.specs.Registries.{Registry, Reply, Request, batch, body_value, bundled_from, decision, delete, deleted, documents_seen, for_base, for_value, is_in_library, linked_reply, outcome_reply, put, put_refusal, refused, reply_of_bundle, stored, unless_missing, validate}
use Rattle.definitions.specs.Resolution.{base_form}
use Rattle.definitions.specs.Runs.{IsForRoom}
use Rattle.definitions.specs.Schemas.{Document, document_from}
use Rattle.definitions.specs.Searches.{Search}
use Rattle.definitions.specs.Services.{KeyedRegistry, call_at, registry_of}
use Rattle.definitions.specs.Steps.{step}
use Rattle.definitions.specs.Values.{Text, Value, same_text}
use Rattle.lemmas.proofs.SomeValues.{none_some}
use Rattle.lemmas.proofs.Texts.{same_text_is}
use Rattle.definition_laws.proofs.Membership.{is_first, is_later, found_some}
use Rattle.stored_rows.specs.Laws.{NewDocumentsHaveNoRow}
use Rattle.stored_rows.specs.Restoring.{HaveDistinctDigests}
use Rattle.stored_rows.specs.Rows.{HasNoRow, NewHasNoRow, Row, digest, is_row_at, rows_of}
use Rattle.stored_rows.proofs.AnsweredRows.{all_ascend}
use Rattle.stored_rows.proofs.ChangedRows.{own_document}
use Rattle.stored_rows.proofs.RegistryRows.{AllAscend}

all_kept : {X : Type 0} (p : X → Bool) (xs : List X) → ((x : X) → Contains xs x → p x ≡ true) → filter p xs ≡ xs
all_kept p [] h = refl
all_kept p (x ∷ xs) h = rw (h x (is_first x xs)) (ap (λ l. x ∷ l) (all_kept p xs (λ y c. h y (is_later x y xs c))))

module _ (search : Search) (ks : List KeyedRegistry) (key : Text) (g : Registry) (distinct : HaveDistinctDigests ks) (up : AllAscend ks) (is : registry_of ks key ≡ Some g) where
  -- ---- no document, no row
  no_row : (uri : Text) → document_of g.documents uri ≡ None → HasNoRow (digest key) uri (rows_of ks)
  no_row uri none = all_kept (λ r. not (is_row_at (digest key) uri r)) (rows_of ks) (λ r c. other r (is_row_at (digest key) uri r) refl c)
    where
      other : (r : Row) (b : Bool) → is_row_at (digest key) uri r ≡ b → Contains (rows_of ks) r → not b ≡ true
      other r true e c =
          let both = and_parts (same_text (digest key) r.tenant) (same_text uri r.uri) e in
          let own = own_document ks key g distinct up is r c (sym (same_text_is (digest key) r.tenant both.0)) in
          let same : uri ≡ own.0.canonical = same_text_is uri r.uri both.1 ∙ ap (λ (x : Row). x.uri) own.1.1 in
          let there = found_some (λ (x : Document). same_text uri x.canonical) own.0 g.documents own.1.0 ((bytes_decides uri own.0.canonical).1 same) in
          absurd (none_some (sym none ∙ there.1))
      other r false e c = refl

  -- ---- a step
  abbrev Fits : Reply → Type 0
  Fits r = NewHasNoRow key r (rows_of ks)

  stored_fits : (uri : Text) → Fits (stored uri (is_some (document_of g.documents uri)))
  stored_fits uri = by (document_of g.documents uri) refl
    where
      by : (o : Option Document) → document_of g.documents uri ≡ o → Fits (stored uri (is_some o))
      by None e = no_row uri e
      by (Some d) e = tt

  missing_fits : (ds : List Document) (o : Option Text) (r : Reply) → Fits r → Fits (unless_missing ds o r)
  missing_fits ds None r h = h
  missing_fits ds (Some t) r h = tt

  linked_fits : (ds : List Document) (r : Reply) → Fits r → Fits (linked_reply ds r)
  linked_fits [] r h = tt
  linked_fits (d ∷ ds) r h = missing_fits (d ∷ ds) _ r h

  outcome_fits : (o : Result Outcome Fault) → Fits (outcome_reply o)
  outcome_fits (Ok o) = tt
  outcome_fits (Err f) = tt

  bundle_fits : (o : Result Value Fault) → Fits (reply_of_bundle o)
  bundle_fits (Ok v) = tt
  bundle_fits (Err f) = tt

  either_fits : (b : Bool) (r s : Reply) → Fits r → Fits s → Fits (cond b r s)
  either_fits true r s h k = h
  either_fits false r s h k = k

  abbrev IsFitting : Reply × Registry → Type 0
  IsFitting x = Fits x.0

  decided : (o : Option Fault) (r : Reply) (after : Registry) → Fits r → IsFitting (decision o r after g)
  decided None r after h = h
  decided (Some f) r after h = tt

  for_base_fits : (r : Result Text Fault) (next : Text → Reply × Registry) → ((b : Text) → IsFitting (next b)) → IsFitting (for_base g r next)
  for_base_fits (Ok b) next h = h b
  for_base_fits (Err f) next h = tt

  for_value_fits : (r : Result Value Fault) (next : Value → Reply × Registry) → ((v : Value) → IsFitting (next v)) → IsFitting (for_value g r next)
  for_value_fits (Ok v) next h = h v
  for_value_fits (Err f) next h = tt

  deleted_fits : (uri : Text) (owned there : Bool)
      → IsFitting (cond {A = Reply × Registry} owned (refused library_owned, g) (cond {A = Reply × Registry} there (deleted uri, record g { documents = others_of uri g.documents }) (refused not_found, g)))
  deleted_fits uri true there = tt
  deleted_fits uri false true = tt
  deleted_fits uri false false = tt

  for_documents_fits : (r : Result (List Document) Numbered) → IsFitting (for_documents g r)
  for_documents_fits (Ok es) = decided (batch_refusal g es (documents_with_all es g.documents)) _ _ tt
  for_documents_fits (Err (k, f)) = tt

  for_entries_fits : (r : Result (List Entry) Fault) → IsFitting (for_entries search g r)
  for_entries_fits (Ok es) = for_documents_fits (entry_documents search 0 es)
  for_entries_fits (Err f) = tt

  step_fits : (q : Request) → IsFitting (step search g q)
  step_fits (put uri body) = for_base_fits (base_form uri) _ (λ b. for_value_fits (body_value body) _ (λ v.
      decided (put_refusal search g (document_from b v) (documents_with (document_from b v) g.documents)) _ _ (stored_fits (document_from b v).canonical)))
  step_fits (delete uri) = for_base_fits (base_form uri) _ (λ b. deleted_fits b (is_in_library g b) (is_some (document_of g.documents b)))
  step_fits (validate uri body) = for_base_fits (base_form uri) _ (λ b. for_value_fits (body_value body) _ (λ x.
      linked_fits (reach (documents_seen g) b) (outcome_reply (answer search.matches (reach (documents_seen g) b) b x))
      (outcome_fits (answer search.matches (reach (documents_seen g) b) b x))))
  step_fits (bundled_from uri) = for_base_fits (base_form uri) _ (λ b.
      either_fits (is_some (document_of (reach (documents_seen g) b) b)) (linked_reply (reach (documents_seen g) b) (reply_of_bundle (bundle (reach (documents_seen g) b) b))) (refused not_found)
      (linked_fits (reach (documents_seen g) b) (reply_of_bundle (bundle (reach (documents_seen g) b) b)) (bundle_fits (bundle (reach (documents_seen g) b) b))) tt)
  step_fits (batch bytes) = for_entries_fits (batch_entries bytes)

-- ---- a call
call_fits : (search : Search) (ks : List KeyedRegistry) (key : Text) (q : Request) (o : Option Registry) → HaveDistinctDigests ks → AllAscend ks → registry_of ks key ≡ o
    → NewHasNoRow key (call_at search ks (key, q) o).0 (rows_of ks)
call_fits search ks key q None distinct up is = tt
call_fits search ks key q (Some g) distinct up is = step_fits search ks key g distinct up is q

for_room_fits : (search : Search) (key : Text) (q : Request) (r : Reply) (rows : List Row) → IsForRoom search q r → NewHasNoRow key r rows
for_room_fits search key q r rows (inl none) = subst (λ x. NewHasNoRow key x rows) (sym none) tt
for_room_fits search key q r rows (inr (inl pattern)) = subst (λ x. NewHasNoRow key x rows) (sym pattern.0) tt
for_room_fits search key q r rows (inr (inr entry)) = subst (λ x. NewHasNoRow key x rows) (sym entry.1) tt

pub new_documents_have_no_row : NewDocumentsHaveNoRow
new_documents_have_no_row search ks ls key q r distinct kept (inl s) =
    subst (λ x. NewHasNoRow key x (rows_of ks)) (sym s.0) (call_fits search ks key q (registry_of ks key) distinct (all_ascend search ks distinct kept) refl)
new_documents_have_no_row search ks ls key q r distinct kept (inr s) = for_room_fits search key q r (rows_of ks) s.1
