-- What holds of a batch that isn't refused, and of a library that a batch gives.
use Rattle.std.proofs.Common.{◌≡◌, ℕ, suc, Bool, true, false, not, cond, List, [], ◌∷◌, ◌++◌, map, flat_map, length, nat_lt, Contains, Option, Some, None, option_map, Result, Ok, Err, refl, sym, ap, ◌∙◌, subst, inl, inr}
use Rattle.std.proofs.lemmas.Bool.{or_from}
use Rattle.std.specs.List.{list_any}
use Rattle.definitions.specs.Values.{Text, same_text}
use Rattle.definitions.specs.Lists.{has_repeat, option_list, first, when}
use Rattle.definitions.specs.Faults.{Fault, bad_pattern, library_owned, taken, same_document, quota_documents, quota_bytes}
use Rattle.definitions.specs.Resolution.{base_form}
use Rattle.definitions.specs.Schemas.{Document, document_from}
use Rattle.definitions.specs.Scanning.{scan_faults}
use Rattle.definitions.specs.Reach.{least}
use Rattle.definitions.specs.Registries.{Registry, is_in_library}
use Rattle.definitions.specs.Searches.{Search, is_regular}
use Rattle.definitions.specs.Documents.{canonicals, documents_of_both, taken_uris, bytes_of, documents_with_all}
use Rattle.definitions.specs.Batches.{Entry, accepted_document, document_under, entry_document, with_later, Numbered, entry_documents, repeats, repeated_uri, taken_by, batch_refusal, unless_shared, library_with}
use Rattle.definition_laws.proofs.Membership.{nothing_in, is_first, is_later, first_or_later}
use Rattle.definition_laws.proofs.Repeats.{none_of}
use Rattle.definition_laws.proofs.LeastTexts.{no_least}
use Rattle.definition_laws.proofs.AcceptedDocuments.{first_none, neither, when_none, is_not, free_of_others}
use Rattle.definition_laws.proofs.PlacedDocuments.{key_of}
use Rattle.definition_laws.proofs.KeptDocuments.{IsFine, IsFree}

-- ---- entry by entry
-- one of the entries gave it, and it is fine
pub record IsEntered (search : Search) (es : List Entry) (d : Document) : Type 0 where
  pub entry : Entry
  pub inside : Contains es entry
  pub is_base : base_form entry.uri ≡ Ok d.base
  pub is_value : entry.schema ≡ d.value
  pub fine : IsFine search d

accepted_is : (d e : Document) (o : Option Fault) → accepted_document d o ≡ Ok e → (d ≡ e) × (o ≡ None)
accepted_is d e None h = (cc, refl)
accepted_is d e (Some f) h = cc

under_is : (search : Search) (x : Entry) (es : List Entry) (r : Result Text Fault) (d : Document) → Contains es x → base_form x.uri ≡ r
    → document_under search r x.schema ≡ Ok d → IsEntered search es d
under_is search x es (Ok b) d c is h =
    let made = accepted_is (document_from b x.schema) d _ h in
    let parts = neither (scan_faults b x.schema) (when (not (is_regular search x.schema)) bad_pattern) (first_none _ made.1) in
    subst (IsEntered search es) made.0 (record {
      entry = x;
      inside = c;
      is_base = is;
      is_value = refl;
      fine = record { named = refl; scanned = parts.0; regular = is_not (is_regular search x.schema) (when_none (not (is_regular search x.schema)) bad_pattern parts.1) };
    })
under_is search x es (Err f) d c is h = cc

later_is : (k : ℕ) (r : Result Document Fault) (later : Result (List Document) Numbered) (ds : List Document) → with_later k r later ≡ Ok ds
    → (d : Document) × ((es : List Document) × ((r ≡ Ok d) × ((later ≡ Ok es) × (ds ≡ d ∷ es))))
later_is k (Err f) later ds h = cc
later_is k (Ok d) (Ok es) ds h = (d, (es, (refl, (refl, cc))))
later_is k (Ok d) (Err r) ds h = cc

wider : (search : Search) (x : Entry) (es : List Entry) (d : Document) → IsEntered search es d → IsEntered search (x ∷ es) d
wider search x es d e = record { entry = e.entry; inside = is_later x e.entry es e.inside; is_base = e.is_base; is_value = e.is_value; fine = e.fine }

pub entered : (search : Search) (k : ℕ) (es : List Entry) (ds : List Document) → entry_documents search k es ≡ Ok ds → (d : Document) → Contains ds d → IsEntered search es d
entered search k [] ds h d c = absurd (nothing_in d (subst (λ xs. Contains xs d) (sym (inside h)) c))
  where
    inside : ◌≡◌ {A = Result (List Document) Numbered} (Ok []) (Ok ds) → [] ≡ ds
    inside e = cc
entered search k (x ∷ es) ds h d c =
    let cut = later_is k (entry_document search x) (entry_documents search (suc k) es) ds h in
    elim (first_or_later cut.0 d cut.1.0 (subst (λ xs. Contains xs d) cut.1.1.1.1 c)) [
      | inl same ↦ subst (IsEntered search (x ∷ es)) same (under_is search x (x ∷ es) (base_form x.uri) cut.0 (is_first x es) refl cut.1.1.0)
      | inr later ↦ wider search x es d (entered search (suc k) es cut.1.0 cut.1.1.1.0 d later)
    ]

-- ---- all of them
repeats_none_at : (b : Bool) (t : Text) (ts : List Text) → cond b (t ∷ repeats ts) (repeats ts) ≡ [] → (b ≡ false) × (repeats ts ≡ [])
repeats_none_at true t ts h = cc
repeats_none_at false t ts h = (refl, h)

repeats_none : (ts : List Text) → repeats ts ≡ [] → has_repeat same_text ts ≡ false
repeats_none [] h = refl
repeats_none (t ∷ ts) h =
    let parts = repeats_none_at (list_any (same_text t) ts) t ts h in
    or_from (list_any (same_text t) ts) (has_repeat same_text ts) parts.0 (repeats_none ts parts.1)

pub unrepeated : (ds : List Document) → repeated_uri ds ≡ None → has_repeat same_text (canonicals ds) ≡ false
unrepeated ds once = repeats_none (canonicals ds) (no_least (repeats (canonicals ds)) once)

pub flat_none : {X Y : Type 0} (f : X → List Y) (x : X) (xs : List X) → flat_map f xs ≡ [] → Contains xs x → f x ≡ []
flat_none f x [] h c = absurd (nothing_in x c)
flat_none f x (y ∷ ys) h c =
    let parts = neither (f y) (flat_map f ys) h in
    elim (first_or_later y x ys c) [
      | inl same ↦ ap f (sym same) ∙ parts.0
      | inr later ↦ flat_none f x ys parts.1 later
    ]

-- no URI of theirs is another's among all documents, and none stands twice
pub record AreFree (all ds : List Document) : Type 0 where
  pub once : has_repeat same_text (map key_of ds) ≡ false
  pub free : (d : Document) → Contains ds d → IsFree d all

no_text : {A B : Type 0} (f : A → B) (o : Option A) → option_list (option_map f o) ≡ [] → o ≡ None
no_text f None h = refl
no_text f (Some x) h = cc

are_free : (all ds : List Document) → repeated_uri ds ≡ None → taken_by all ds ≡ None → AreFree all ds
are_free all ds once free = record {
  once = unrepeated ds once;
  free = λ d c e k other.
      free_of_others all d e (ap least (flat_none (taken_uris all) d ds (no_least (flat_map (taken_uris all) ds) free) c)) k other;
}

-- what `batch_refusal` has no fault in
pub record IsGranted (g : Registry) (ds after : List Document) : Type 0 where
  pub unowned : (d : Document) → Contains ds d → is_in_library g d.canonical ≡ false
  pub free : AreFree (documents_of_both g.library after) ds
  pub few : nat_lt g.most_documents (length after) ≡ false
  pub small : nat_lt g.most_bytes (bytes_of after) ≡ false

pub granted_by : (repeated : Option Text) (owned : Bool) (uri : Option Text) (many large : Bool)
    → first (option_list (option_map same_document repeated) ++ (when owned library_owned ++ (option_list (option_map taken uri) ++ (when many quota_documents ++ when large quota_bytes)))) ≡ None
    → (repeated ≡ None) × ((owned ≡ false) × ((uri ≡ None) × ((many ≡ false) × (large ≡ false))))
granted_by repeated owned uri many large e =
    let one = neither (option_list (option_map same_document repeated)) _ (first_none _ e) in
    let two = neither (when owned library_owned) _ one.1 in
    let three = neither (option_list (option_map taken uri)) _ two.1 in
    let four = neither (when many quota_documents) (when large quota_bytes) three.1 in
    (no_text same_document repeated one.0, (when_none owned library_owned two.0, (no_text taken uri three.0, (when_none many quota_documents four.0, when_none large quota_bytes four.1))))

pub granted : (g : Registry) (ds after : List Document) → batch_refusal g ds after ≡ None → IsGranted g ds after
granted g ds after e =
    let parts = granted_by (repeated_uri ds) (list_any (λ d. is_in_library g d.canonical) ds) (taken_by (documents_of_both g.library after) ds) (nat_lt g.most_documents (length after)) (nat_lt g.most_bytes (bytes_of after)) e in
    record {
      unowned = λ d c. none_of (λ x. is_in_library g x.canonical) d ds parts.1.0 c;
      free = are_free (documents_of_both g.library after) ds parts.0 parts.1.1.0;
      few = parts.1.1.1.0;
      small = parts.1.1.1.1;
    }

-- ---- a library
shared_none : (all ds : List Document) (o : Option Fault) → unless_shared all o ≡ Ok ds → (o ≡ None) × (all ≡ ds)
shared_none all ds None h = (refl, cc)
shared_none all ds (Some f) h = cc

two_none : (repeated uri : Option Text) → first (option_list (option_map same_document repeated) ++ option_list (option_map taken uri)) ≡ None → (repeated ≡ None) × (uri ≡ None)
two_none repeated uri e =
    let parts = neither (option_list (option_map same_document repeated)) (option_list (option_map taken uri)) (first_none _ e) in
    (no_text same_document repeated parts.0, no_text taken uri parts.1)

pub library_free : (ds all : List Document) → library_with ds ≡ Ok all → (documents_with_all ds [] ≡ all) × AreFree (documents_with_all ds []) ds
library_free ds all h =
    let shared = shared_none (documents_with_all ds []) all _ h in
    let none = two_none (repeated_uri ds) (taken_by (documents_with_all ds []) ds) shared.0 in
    (shared.1, are_free (documents_with_all ds []) ds none.0 none.1)
