-- What decides the reply to a request, and what no reply is refused for.
use Rattle.std.proofs.Common.{◌≡◌, ◌↔◌, ◌&&◌, ℕ, zero, suc, List, [], ◌∷◌, ◌++◌, Bool, true, false, not, Option, Some, None, is_none, is_some, is_ok, option_map, length, nat_lt, ◌+◌, ◌≤◌, arith, Result, Ok, Err, refl, sym, ap, ◌∙◌, subst, inl, inr, true≢false}
use Rattle.std.proofs.lemmas.Bool.{and_parts}
use Rattle.definitions.specs.Values.{Text, Value}
use Rattle.definitions.specs.Faults.{Fault, bad_pattern, library_owned, taken, quota_documents, quota_bytes}
use Rattle.definitions.specs.Resolution.{base_form}
use Rattle.definitions.specs.Schemas.{Document, document_from}
use Rattle.definitions.specs.Lists.{option_list, first, when}
use Rattle.definitions.specs.Scanning.{scan_fault, scan_faults}
use Rattle.definitions.specs.Reach.{reach, IsReached}
use Rattle.definitions.specs.Alike.{Agree}
use Rattle.definitions.specs.Registries.{Registry, documents_seen, is_in_library, Request, put, delete, validate, bundled_from, batch, stored, stored_all, refused, refused_at, for_base, for_value, decision, put_into, bundling_reply, body_value}
use Rattle.definitions.specs.Searches.{Search, is_regular, has_patterns, builds}
use Rattle.definitions.specs.Documents.{taken_uri, bytes_of, documents_with, document_of, documents_with_all}
use Rattle.definitions.specs.Batches.{Entry, Numbered, batch_entries, entry_document, entry_documents, batch_refusal, each_stored, for_documents, for_entries, document_under, with_later}
use Rattle.definitions.specs.Steps.{step}
use Rattle.definitions.specs.Runs.{IsForRoom, BuildsPatterns, BuildsPatternsAt, builds_at, entries_build}
use Rattle.definitions.specs.Keeping.{IsKept}
use Rattle.definition_laws.proofs.AcceptedDocuments.{first_none}
use Rattle.definition_laws.proofs.KeptReaches.{same_reached_agree}
use Rattle.definition_laws.proofs.Registries.{agree_answer_alike}

-- ---- the same reached documents
bundled_by : (g h : Registry) (base : Result Text Fault) → ((b : Text) → base ≡ Ok b → Agree (documents_seen g) (documents_seen h) b)
    → (for_base g base (λ b. (bundling_reply b (reach (documents_seen g) b), g))).0 ≡ (for_base h base (λ b. (bundling_reply b (reach (documents_seen h) b), h))).0
bundled_by g h (Ok b) agree = ap (bundling_reply b) (agree b refl)
bundled_by g h (Err e) agree = refl

pub same_reached_alike : (search : Search) (g h : Registry) (uri body : Text) → IsKept search g → IsKept search h
    → ((b : Text) → base_form uri ≡ Ok b → (d : Document) → IsReached (documents_seen g) b d ↔ IsReached (documents_seen h) b d)
    → ((step search g (validate uri body)).0 ≡ (step search h (validate uri body)).0) × ((step search g (bundled_from uri)).0 ≡ (step search h (bundled_from uri)).0)
same_reached_alike search g h uri body kept_g kept_h same =
    let agree : (b : Text) → base_form uri ≡ Ok b → Agree (documents_seen g) (documents_seen h) b =
    λ b is. same_reached_agree search (documents_seen g) (documents_seen h) b kept_g.seen kept_h.seen (same b is) in
    (agree_answer_alike search g h uri body agree, bundled_by g h (base_form uri) agree)

-- ---- patterns that are refused
pub record DoesBuild (search : Search) (base : Result Text Fault) (v : Result Value Fault) : Type 0 where
  pub under : Text
  pub value : Value
  pub is_base : base ≡ Ok under
  pub is_value : v ≡ Ok value
  pub scanned : scan_faults under value ≡ []
  pub regular : is_regular search value ≡ true

is_none_of : (o : Option Fault) → is_none o ≡ true → o ≡ None
is_none_of None e = refl
is_none_of (Some f) e = cc

does_build : (search : Search) (base : Result Text Fault) (v : Result Value Fault) → builds search base v ≡ true → DoesBuild search base v
does_build search (Ok b) (Ok v) e =
    let parts = and_parts (is_none (scan_fault b v)) (has_patterns v && is_regular search v) e in
    let rest = and_parts (has_patterns v) (is_regular search v) parts.1 in
    record { under = b; value = v; is_base = refl; is_value = refl; scanned = first_none (scan_faults b v) (is_none_of (scan_fault b v) parts.0); regular = rest.1 }
does_build search (Ok b) (Err f) e = absurd (true≢false (sym e))
does_build search (Err f) v e = absurd (true≢false (sym e))

decided_at : (faults : List Fault) (regular owned : Bool) (uri : Option Text) (many large : Bool) (d : Text) (replaced : Bool) (after g : Registry) → faults ≡ [] → regular ≡ true
    → (decision (first (faults ++ (when (not regular) bad_pattern ++ (when owned library_owned ++ (option_list (option_map taken uri) ++ (when many quota_documents ++ when large quota_bytes))))))
    (stored d replaced) after g).0 ≡ refused bad_pattern → ⊥
decided_at (f ∷ fs) regular owned uri many large d replaced after g none reads e = cc
decided_at [] false owned uri many large d replaced after g none reads e = cc
decided_at [] true true uri many large d replaced after g none reads e = cc
decided_at [] true false (Some u) many large d replaced after g none reads e = cc
decided_at [] true false None true large d replaced after g none reads e = cc
decided_at [] true false None false true d replaced after g none reads e = cc
decided_at [] true false None false false d replaced after g none reads e = cc

put_not : (search : Search) (g : Registry) (uri body : Text) → DoesBuild search (base_form uri) (body_value body) → (step search g (put uri body)).0 ≡ refused bad_pattern → ⊥
put_not search g uri body made e =
    let d = document_from made.under made.value in
    let after = documents_with d g.documents in
    decided_at (scan_faults d.base d.value) (is_regular search d.value) (is_in_library g d.canonical) (taken_uri (documents_seen g) d) (nat_lt g.most_documents (length after)) (nat_lt g.most_bytes (bytes_of after))
    d.canonical (is_some (document_of g.documents d.canonical)) (record g { documents = after }) g made.scanned made.regular
    (ap (λ x. x.0) (sym (stepped (base_form uri) (body_value body) made.is_base made.is_value)) ∙ e)
  where
    stepped : (base : Result Text Fault) (v : Result Value Fault) → base ≡ Ok made.under → v ≡ Ok made.value
        → for_base g base (λ b. for_value g v (λ w. put_into search g (document_from b w))) ≡ put_into search g (document_from made.under made.value)
    stepped base v is_base is_value = rw (is_base, is_value) refl

-- the entry whose patterns are built has no fault, and neither has one before it
entered_at : (search : Search) (e : Entry) → builds search (base_form e.uri) (Ok e.schema) ≡ true → is_ok (entry_document search e) ≡ true
entered_at search e h =
    let made = does_build search (base_form e.uri) (Ok e.schema) h in
    let value : e.schema ≡ made.value = inside made.is_value in
    ap is_ok (under made.under e.schema (base_form e.uri) made.is_base (ap (scan_faults made.under) value ∙ made.scanned) (ap (is_regular search) value ∙ made.regular))
  where
    inside : {v w : Value} → ◌≡◌ {A = Result Value Fault} (Ok v) (Ok w) → v ≡ w
    inside e = cc

    under : (b : Text) (v : Value) (r : Result Text Fault) → r ≡ Ok b → scan_faults b v ≡ [] → is_regular search v ≡ true → document_under search r v ≡ Ok (document_from b v)
    under b v r is scanned regular = rw (is, scanned, regular) refl

later_at : (k n : ℕ) (r : Result Document Fault) (later : Result (List Document) Numbered) (f : Fault) → is_ok r ≡ true → with_later k r later ≡ Err (n, f) → later ≡ Err (n, f)
later_at k n (Ok d) (Ok ds) f ok e = cc
later_at k n (Ok d) (Err r) f ok e = e
later_at k n (Err g) later f ok e = absurd (true≢false (sym ok))

abbrev number_in : Result (List Document) Numbered → ℕ
number_in (Ok ds) = 0
number_in (Err r) = r.0

no_error : (ds : List Document) (n : ℕ) (f : Fault) → ◌≡◌ {A = Result (List Document) Numbered} (Ok ds) (Err (n, f)) → ⊥
no_error ds n f e = cc

numbers_on : (search : Search) (k n : ℕ) (es : List Entry) (f : Fault) → entry_documents search k es ≡ Err (n, f) → k ≤ n
numbers_on search k n [] f e = absurd (no_error [] n f e)
numbers_on search k n (x ∷ es) f e = with_rest (entry_document search x) (entry_documents search (suc k) es) e (numbers_on search (suc k) n es f)
  where
    numbered : (m : ℕ) (g : Fault) → ◌≡◌ {A = Result (List Document) Numbered} (Err (m, g)) (Err (n, f)) → m ≡ n
    numbered m g h = ap (λ (r : Result (List Document) Numbered). number_in r) h

    with_rest : (r : Result Document Fault) (later : Result (List Document) Numbered) → with_later k r later ≡ Err (n, f) → (later ≡ Err (n, f) → suc k ≤ n) → k ≤ n
    with_rest (Ok d) (Ok ds) h more = absurd (no_error (d ∷ ds) n f h)
    with_rest (Ok d) (Err s) h more = omega (arith, more h)
    with_rest (Err g) later h more = omega (arith, numbered k g h)

none_built_at : (search : Search) (k n m : ℕ) (es : List Entry) (f : Fault) → builds_at search n es ≡ true → m ≡ k + n → entry_documents search k es ≡ Err (m, f) → ⊥
none_built_at search k n m [] f h is e = true≢false (sym h)
none_built_at search k zero m (x ∷ es) f h is e =
    let more = numbers_on search (suc k) m es f (later_at k m (entry_document search x) (entry_documents search (suc k) es) f (entered_at search x h) e) in
    absurd (omega (arith, more, is))
none_built_at search k (suc n) m (x ∷ es) f h is e =
    let parts = and_parts (is_ok (entry_document search x)) (builds_at search n es) h in
    none_built_at search (suc k) n m es f parts.1 (omega (arith, is)) (later_at k m (entry_document search x) (entry_documents search (suc k) es) f parts.0 e)

not_stored : (o : Option Fault) (ds : List (Text × Bool)) (after g : Registry) (n : ℕ) (f : Fault) → (decision o (stored_all ds) after g).0 ≡ refused_at n f → ⊥
not_stored None ds after g n f e = cc
not_stored (Some h) ds after g n f e = cc

refused_in : (k n : ℕ) (f g : Fault) → refused_at k f ≡ refused_at n g → ◌≡◌ {A = Result (List Document) Numbered} (Err (k, f)) (Err (n, g))
refused_in k n f g e = cc

for_documents_at : (g : Registry) (r : Result (List Document) Numbered) (n : ℕ) (f : Fault) → (for_documents g r).0 ≡ refused_at n f → r ≡ Err (n, f)
for_documents_at g (Ok ds) n f e = absurd (not_stored (batch_refusal g ds (documents_with_all ds g.documents)) (each_stored g ds) (record g { documents = documents_with_all ds g.documents }) g n f e)
for_documents_at g (Err (k, h)) n f e = refused_in k n h f e

batch_not : (search : Search) (g : Registry) (r : Result (List Entry) Fault) (n : ℕ) → entries_build search n r ≡ true → (for_entries search g r).0 ≡ refused_at n bad_pattern → ⊥
batch_not search g (Ok es) n h e = none_built_at search 0 n n es bad_pattern h (omega arith) (for_documents_at g (entry_documents search 0 es) n bad_pattern e)
batch_not search g (Err f) n h e = true≢false (sym h)

put_room : (search : Search) (g : Registry) (q : Request) → (step search g q).0 ≡ refused bad_pattern → BuildsPatterns search q → ⊥
put_room search g (put uri body) e h = put_not search g uri body (does_build search (base_form uri) (body_value body) h) e
put_room search g (delete uri) e h = h
put_room search g (validate uri body) e h = h
put_room search g (bundled_from uri) e h = h
put_room search g (batch bytes) e h = h

batch_room : (search : Search) (g : Registry) (q : Request) (n : ℕ) → (step search g q).0 ≡ refused_at n bad_pattern → BuildsPatternsAt search q n → ⊥
batch_room search g (put uri body) n e h = h
batch_room search g (delete uri) n e h = h
batch_room search g (validate uri body) n e h = h
batch_room search g (bundled_from uri) n e h = h
batch_room search g (batch bytes) n e h = batch_not search g (batch_entries bytes) n h e

same_number : (m n : ℕ) (f h : Fault) → refused_at m f ≡ refused_at n h → m ≡ n
same_number m n f h e = cc

pub not_for_room : (search : Search) (g : Registry) (q : Request)
    → ((step search g q).0 ≡ refused bad_pattern → IsForRoom search q (refused bad_pattern) → ⊥)
    × ((n : ℕ) → (step search g q).0 ≡ refused_at n bad_pattern → IsForRoom search q (refused_at n bad_pattern) → ⊥)
not_for_room search g q = (whole, entry)
  where
    whole : (step search g q).0 ≡ refused bad_pattern → IsForRoom search q (refused bad_pattern) → ⊥
    whole e (inl same) = cc
    whole e (inr (inl built)) = put_room search g q e built.1
    whole e (inr (inr at)) = unlike at.0 at.1
      where
        unlike : (n : ℕ) → refused bad_pattern ≡ refused_at n bad_pattern → ⊥
        unlike n h = cc

    entry : (n : ℕ) → (step search g q).0 ≡ refused_at n bad_pattern → IsForRoom search q (refused_at n bad_pattern) → ⊥
    entry n e (inl same) = cc
    entry n e (inr (inl built)) = unlike built.0
      where
        unlike : refused_at n bad_pattern ≡ refused bad_pattern → ⊥
        unlike h = cc
    entry n e (inr (inr at)) =
        batch_room search g q n e (subst (BuildsPatternsAt search q) (sym (same_number n at.0 bad_pattern bad_pattern at.1)) at.2)
