-- What each change of a registry keeps, every request keeps, and every course of requests.
use Rattle.std.proofs.Common.{◌≡◌, Bool, true, false, cond, List, [], ◌∷◌, is_some, Some, None, Ok, Err, Option, Result, sym, refl, subst, inl, inr}
use Rattle.definitions.specs.Values.{Text, Value}
use Rattle.definitions.specs.Faults.{Fault}
use Rattle.definitions.specs.Resolution.{base_form}
use Rattle.definitions.specs.Schemas.{Document, document_from}
use Rattle.definitions.specs.Documents.{document_of, documents_with, documents_with_all, others_of}
use Rattle.definitions.specs.Registries.{Registry, is_in_library, Request, put, delete, validate, bundled_from, batch, Reply, for_base, for_value, decision, put_refusal, body_value}
use Rattle.definitions.specs.Searches.{Search}
use Rattle.definitions.specs.Batches.{Entry, batch_entries, entry_documents, Numbered, batch_refusal, for_documents, for_entries}
use Rattle.definitions.specs.Steps.{step}
use Rattle.definitions.specs.Runs.{Course}
use Rattle.definition_laws.specs.Keeping.{IsSetAlike}

-- what a property has to be kept by
pub record IsKeptByChanges (search : Search) (P : Registry → Type 0) (g : Registry) : Type 0 where
  pub by_put : (uri b body : Text) (v : Value) → base_form uri ≡ Ok b → body_value body ≡ Ok v
      → put_refusal search g (document_from b v) (documents_with (document_from b v) g.documents) ≡ None → P (record g { documents = documents_with (document_from b v) g.documents })
  pub by_delete : (b : Text) → is_in_library g b ≡ false → P (record g { documents = others_of b g.documents })
  pub by_batch : (bytes : Text) (es : List Entry) (ds : List Document) → batch_entries bytes ≡ Ok es → entry_documents search 0 es ≡ Ok ds
      → batch_refusal g ds (documents_with_all ds g.documents) ≡ None → P (record g { documents = documents_with_all ds g.documents })

module _ (P : Registry → Type 0) where
  pub for_base_keeps : (g : Registry) (r : Result Text Fault) (next : Text → Reply × Registry) → ((b : Text) → r ≡ Ok b → P (next b).1) → P g → P (for_base g r next).1
  for_base_keeps g (Ok b) next h before = h b refl
  for_base_keeps g (Err e) next h before = before

  pub for_value_keeps : (g : Registry) (r : Result Value Fault) (next : Value → Reply × Registry) → ((v : Value) → r ≡ Ok v → P (next v).1) → P g → P (for_value g r next).1
  for_value_keeps g (Ok v) next h before = h v refl
  for_value_keeps g (Err e) next h before = before

  pub decided_keeps : (o : Option Fault) (reply : Reply) (after g : Registry) → (o ≡ None → P after) → P g → P (decision o reply after g).1
  decided_keeps None reply after g h before = h refl
  decided_keeps (Some f) reply after g h before = before

  pub found_keeps : (b : Bool) (done other : Reply) (after g : Registry) → P after → P g → P (cond {A = Reply × Registry} b (done, after) (other, g)).1
  found_keeps true done other after g h before = h
  found_keeps false done other after g h before = before

  pub deleted_keeps : (owned : Bool) (reply : Reply) (rest : Reply × Registry) (g : Registry) → (owned ≡ false → P rest.1) → P g → P (cond {A = Reply × Registry} owned (reply, g) rest).1
  deleted_keeps true reply rest g h before = before
  deleted_keeps false reply rest g h before = h refl

  for_documents_keeps : (g : Registry) (r : Result (List Document) Numbered)
      → ((ds : List Document) → r ≡ Ok ds → batch_refusal g ds (documents_with_all ds g.documents) ≡ None → P (record g { documents = documents_with_all ds g.documents })) → P g → P (for_documents g r).1
  for_documents_keeps g (Ok ds) h before = decided_keeps (batch_refusal g ds (documents_with_all ds g.documents)) _ _ g (h ds refl) before
  for_documents_keeps g (Err (k, f)) h before = before

  pub for_entries_keeps : (search : Search) (g : Registry) (r : Result (List Entry) Fault)
      → ((es : List Entry) (ds : List Document) → r ≡ Ok es → entry_documents search 0 es ≡ Ok ds → batch_refusal g ds (documents_with_all ds g.documents) ≡ None
      → P (record g { documents = documents_with_all ds g.documents })) → P g → P (for_entries search g r).1
  for_entries_keeps search g (Ok es) h before = for_documents_keeps g (entry_documents search 0 es) (λ ds made none. h es ds refl made none) before
  for_entries_keeps search g (Err f) h before = before

  pub step_keeps : (search : Search) (g : Registry) → P g → IsKeptByChanges search P g → (q : Request) → P (step search g q).1
  step_keeps search g before changes (put uri body) =
      for_base_keeps g (base_form uri) _ (λ b is_base. for_value_keeps g (body_value body) _ (λ v was_read.
      decided_keeps (put_refusal search g (document_from b v) (documents_with (document_from b v) g.documents)) _ _ g (changes.by_put uri b body v is_base was_read) before) before) before
  step_keeps search g before changes (delete uri) =
      for_base_keeps g (base_form uri) _ (λ b is_base. deleted_keeps (is_in_library g b) _ _ g
      (λ unowned. found_keeps (is_some (document_of g.documents b)) _ _ _ g (changes.by_delete b unowned) before) before) before
  step_keeps search g before changes (validate uri body) =
      for_base_keeps g (base_form uri) _ (λ b is_base. for_value_keeps g (body_value body) _ (λ v was_read. before) before) before
  step_keeps search g before changes (bundled_from uri) = for_base_keeps g (base_form uri) _ (λ b is_base. before) before
  step_keeps search g before changes (batch bytes) = for_entries_keeps search g (batch_entries bytes) (changes.by_batch bytes) before

  pub course_keeps : (search : Search) → ((g : Registry) (q : Request) → P g → P (step search g q).1)
      → (g h : Registry) (qs : List Request) (rs : List Reply) → Course search g qs rs h → P g → P h
  course_keeps search each g h [] [] course before = subst P (sym course) before
  course_keeps search each g h [] (r ∷ rs) course before = absurd course
  course_keeps search each g h (q ∷ qs) [] course before = absurd course
  course_keeps search each g h (q ∷ qs) (r ∷ rs) course before = elim course [
    | inl answered ↦ course_keeps search each (step search g q).1 h qs rs answered.1 (each g q before)
    | inr for_room ↦ course_keeps search each g h qs rs for_room.1 before
  ]

pub quotas_stay : (search : Search) (g : Registry) (q : Request) → IsSetAlike g (step search g q).1
quotas_stay search g q =
    let own : IsSetAlike g g = record { library = refl; most_documents = refl; most_bytes = refl } in
    step_keeps (IsSetAlike g) search g own (record {
      by_put = λ uri b body v is_base was_read none. record { library = refl; most_documents = refl; most_bytes = refl };
      by_delete = λ b unowned. record { library = refl; most_documents = refl; most_bytes = refl };
      by_batch = λ bytes es ds read made none. record { library = refl; most_documents = refl; most_bytes = refl };
    }) q
