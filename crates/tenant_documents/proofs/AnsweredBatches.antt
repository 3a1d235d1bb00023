-- What a batch is answered.
use Rattle.std.proofs.Common.{◌≡◌, ℕ, Bool, List, Option, Some, None, Ok, Err, refl, sym, ap, ◌∙◌, inl, inr}
use Rattle.definitions.specs.Batches.{Entry, batch_refusal, each_stored, entries_of, entry_documents, for_documents, for_entries, put_all_into}
use Rattle.definitions.specs.Documents.{documents_with_all}
use Rattle.definitions.specs.Faults.{Fault, no_room}
use Rattle.definitions.specs.Patterns.{regular_search}
use Rattle.definitions.specs.Registries.{Registry, Reply, batch, body_value, decision, refused, refused_at, stored_all}
use Rattle.definitions.specs.Runs.{IsAnswer, entries_build}
use Rattle.definitions.specs.Schemas.{Document}
use Rattle.definitions.specs.Steps.{step}
use Rattle.definitions.specs.Values.{Text, Value}
use Rattle.tenant_documents.specs.Batches.{IsPutTogether}
use Rattle.tenant_documents.specs.EntryRefusals.{IsRefusedAt}

-- ---- by its body
pub no_room_for_batch : (g : Registry) (body : Text) → IsAnswer regular_search g (batch body) (refused no_room) g
no_room_for_batch g body = inr (inl refl, refl)

answered_by : (g h : Registry) (body : Text) (r : Reply) (to : Reply × Registry) → step regular_search g (batch body) ≡ to → (r ≡ to.0) × (h ≡ to.1)
    → IsAnswer regular_search g (batch body) r h
answered_by g h body r to is e = inl (e.0 ∙ ap (λ p. p.0) (sym is), e.1 ∙ ap (λ p. p.1) (sym is))

pub bad_body_of_batch : (g : Registry) (body : Text) (f : Fault) → body_value body ≡ Err f → IsAnswer regular_search g (batch body) (refused f) g
bad_body_of_batch g body f e =
    answered_by g g body (refused f) (refused f, g) (ap (λ r. for_entries regular_search g (entries_of r)) e) (refl, refl)

pub no_batch : (g : Registry) (body : Text) (v : Value) (f : Fault) → body_value body ≡ Ok v → entries_of (Ok v) ≡ Err f
    → IsAnswer regular_search g (batch body) (refused f) g
no_batch g body v f e h =
    answered_by g g body (refused f) (refused f, g) (ap (for_entries regular_search g) (ap entries_of e ∙ h)) (refl, refl)

pub refused_entry : (g : Registry) (body : Text) (v : Value) (es : List Entry) (n : ℕ) (f : Fault) → body_value body ≡ Ok v → entries_of (Ok v) ≡ Ok es
    → IsRefusedAt es n f → IsAnswer regular_search g (batch body) (refused_at n f) g
refused_entry g body v es n f e h why = elim why [
  | inl fault ↦ answered_by g g body (refused_at n f) (refused_at n f, g)
      (ap (for_entries regular_search g) (ap entries_of e ∙ h) ∙ ap (for_documents g) fault) (refl, refl)
  | inr room ↦ inr (inr (inr (n, ap (refused_at n) room.0, ap (entries_build regular_search n) (ap entries_of e ∙ h) ∙ room.1)), refl)
]

pub together_answer : (g h : Registry) (body : Text) (v : Value) (es : List Entry) (ds : List Document) (r : Reply) → body_value body ≡ Ok v
    → entries_of (Ok v) ≡ Ok es → entry_documents regular_search 0 es ≡ Ok ds → IsPutTogether g ds r h → IsAnswer regular_search g (batch body) r h
together_answer g h body v es ds r e read made is = elim is [
  | inl done ↦ answered_by g h body r (put_all_into g ds) (ap (for_entries regular_search g) (ap entries_of e ∙ read) ∙ ap (for_documents g) made) done
  | inr room ↦ inr (inl room.0, room.1)
]

-- ---- by its documents
abbrev refusal_of : Registry → List Document → Option Fault
refusal_of g ds = batch_refusal g ds (documents_with_all ds g.documents)

pub refused_together : (g : Registry) (ds : List Document) (f : Fault) → refusal_of g ds ≡ Some f → IsPutTogether g ds (refused f) g
refused_together g ds f e =
    let is : put_all_into g ds ≡ (refused f, g) =
    ap (λ o. decision o (stored_all (each_stored g ds)) (record g { documents = documents_with_all ds g.documents }) g) e in
    inl (ap (λ p. p.0) (sym is), ap (λ p. p.1) (sym is))

pub no_room_together : (g : Registry) (ds : List Document) → IsPutTogether g ds (refused no_room) g
no_room_together g ds = inr (refl, refl)

-- with the documents as they are after it
pub granted_together : (g : Registry) (ds after : List Document) (stored : List (Text × Bool)) → refusal_of g ds ≡ None → stored ≡ each_stored g ds
    → after ≡ documents_with_all ds g.documents → IsPutTogether g ds (stored_all stored) (record g { documents = after })
granted_together g ds after stored e same put =
    let is : put_all_into g ds ≡ (stored_all (each_stored g ds), record g { documents = documents_with_all ds g.documents }) =
    ap (λ o. decision o (stored_all (each_stored g ds)) (record g { documents = documents_with_all ds g.documents }) g) e in
    inl (ap stored_all same ∙ ap (λ p. p.0) (sym is), ap (λ es. record g { documents = es }) put ∙ ap (λ p. p.1) (sym is))

pub no_room_after_judging : (g : Registry) (ds after : List Document) → after ≡ g.documents → IsPutTogether g ds (refused no_room) (record g { documents = after })
no_room_after_judging g ds after e = inr (refl, ap (λ es. record g { documents = es }) e)
