-- Refusals, courses and agreement.
use Rattle.std.proofs.Common.{◌≡◌, List, [], ◌∷◌, Bool, true, false, cond, is_some, Option, Some, None, Result, Ok, Err, refl, ap, ap₂, inl, inr}
use Rattle.definitions.specs.Values.{Text, Value}
use Rattle.definitions.specs.Faults.{Fault, library_owned, not_found}
use Rattle.definitions.specs.Resolution.{base_form}
use Rattle.definitions.specs.Schemas.{Document, document_from}
use Rattle.definitions.specs.Reach.{reach}
use Rattle.definitions.specs.Alike.{Agree}
use Rattle.definitions.specs.Registries.{Registry, documents_seen, is_in_library, deleted_from, Request, put, delete, validate, bundled_from, batch, Reply, deleted, refused, stored_all, for_base, for_value, decision, put_refusal, validation, body_value}
use Rattle.definitions.specs.Searches.{Search}
use Rattle.definitions.specs.Documents.{document_of, others_of}
use Rattle.definitions.specs.Batches.{Entry, Numbered, batch_entries, entry_documents, batch_refusal, each_stored, for_documents, for_entries}
use Rattle.definitions.specs.Steps.{step}
use Rattle.definitions.specs.Runs.{Course, replies, AgreeAnswerAlike}
use Rattle.definition_laws.specs.Laws.{IsRefused, NoneIsForRoom, registry_after}

-- ---- refusals
for_base_keeps : (g : Registry) (r : Result Text Fault) (next : Text → Reply × Registry)
    → ((b : Text) → IsRefused (next b).0 → (next b).1 ≡ g) → IsRefused (for_base g r next).0 → (for_base g r next).1 ≡ g
for_base_keeps g (Ok b) next keeps e = keeps b e
for_base_keeps g (Err fault) next keeps e = refl

for_value_keeps : (g : Registry) (r : Result Value Fault) (next : Value → Reply × Registry)
    → ((v : Value) → IsRefused (next v).0 → (next v).1 ≡ g) → IsRefused (for_value g r next).0 → (for_value g r next).1 ≡ g
for_value_keeps g (Ok v) next keeps e = keeps v e
for_value_keeps g (Err fault) next keeps e = refl

decided_keeps : (o : Option Fault) (reply : Reply) (after before : Registry) → (IsRefused reply → ⊥)
    → IsRefused (decision o reply after before).0 → (decision o reply after before).1 ≡ before
decided_keeps None reply after before granted e = absurd (granted e)
decided_keeps (Some fault) reply after before granted e = refl

abbrev either : Bool → Reply × Registry → Reply × Registry → Reply × Registry
either b x y = cond b x y

deleted_keeps : (owned found : Bool) (b : Text) (g after : Registry)
    → IsRefused (either owned (refused library_owned, g) (either found (deleted b, after) (refused not_found, g))).0
    → (either owned (refused library_owned, g) (either found (deleted b, after) (refused not_found, g))).1 ≡ g
deleted_keeps true found b g after e = refl
deleted_keeps false true b g after e = absurd e
deleted_keeps false false b g after e = refl

for_documents_keeps : (g : Registry) (r : Result (List Document) Numbered) → IsRefused (for_documents g r).0 → (for_documents g r).1 ≡ g
for_documents_keeps g (Ok ds) = decided_keeps (batch_refusal g ds _) (stored_all (each_stored g ds)) _ g (λ e. e)
for_documents_keeps g (Err (k, f)) = λ e. refl

for_entries_keeps : (search : Search) (g : Registry) (r : Result (List Entry) Fault) → IsRefused (for_entries search g r).0 → (for_entries search g r).1 ≡ g
for_entries_keeps search g (Ok es) = for_documents_keeps g (entry_documents search 0 es)
for_entries_keeps search g (Err f) = λ e. refl

pub step_keeps : (search : Search) (g : Registry) (q : Request) → IsRefused (step search g q).0 → (step search g q).1 ≡ g
step_keeps search g (put uri body) =
    for_base_keeps g (base_form uri) _ (λ b. for_value_keeps g (body_value body) _ (λ v. decided_keeps (put_refusal search g (document_from b v) _) _ _ g (λ e. e)))
step_keeps search g (delete uri) =
    for_base_keeps g (base_form uri) (deleted_from g)
    (λ b. deleted_keeps (is_in_library g b) (is_some (document_of g.documents b)) b g (record g { documents = others_of b g.documents }))
step_keeps search g (validate uri body) = for_base_keeps g (base_form uri) _ (λ b. for_value_keeps g (body_value body) _ (λ v e. refl))
step_keeps search g (bundled_from uri) = for_base_keeps g (base_form uri) _ (λ b e. refl)
step_keeps search g (batch bytes) = for_entries_keeps search g (batch_entries bytes)

-- ---- courses
pub course_replies : (search : Search) (g h : Registry) (qs : List Request) (rs : List Reply) → Course search g qs rs h → NoneIsForRoom search qs rs
    → (rs ≡ replies search g qs) × (h ≡ registry_after search g qs)
course_replies search g h [] [] course none = (refl, course)
course_replies search g h [] (r ∷ rs) course none = absurd course
course_replies search g h (q ∷ qs) [] course none = absurd course
course_replies search g h (q ∷ qs) (r ∷ rs) course none = elim course [
  | inl answered ↦ let rest = course_replies search (step search g q).1 h qs rs answered.1 none.1 in (ap₂ (λ x xs. x ∷ xs) answered.0 rest.0, rest.1)
  | inr for_room ↦ absurd (none.0 for_room.0)
]

-- ---- agreement
agree_by : (search : Search) (g h : Registry) (base : Result Text Fault) (v : Result Value Fault) →
    ((b : Text) → base ≡ Ok b → Agree (documents_seen g) (documents_seen h) b) →
    (for_base g base (λ b. for_value g v (λ x. (validation search b x (reach (documents_seen g) b), g)))).0
    ≡ (for_base h base (λ b. for_value h v (λ x. (validation search b x (reach (documents_seen h) b), h)))).0
agree_by search g h (Ok b) (Ok x) agree = ap (validation search b x) (agree b refl)
agree_by search g h (Ok b) (Err e) agree = refl
agree_by search g h (Err e) v agree = refl

pub agree_answer_alike : (search : Search) (g h : Registry) (uri body : Text) → AgreeAnswerAlike search g h uri body
agree_answer_alike search g h uri body = agree_by search g h (base_form uri) (body_value body)
