-- The document that holds a resource: the one with its URI as canonical URI, or else one with several resources.
use Rattle.std.proofs.Common.{◌≡◌, ◌≢◌, ℕ, ◌<◌, ◌≤◌, ◌&&◌, Bool, true, false, cond, String, string_bytes, List, [], ◌∷◌, Some, length, get_or, map, find, Contains, nat_lt, sym, refl, ap, ap₂, ◌∙◌, subst, inl, inr, arith}
use Rattle.std.proofs.lemmas.Bool.{false_from_ne_true}
use Rattle.std.proofs.lemmas.List.{length-map}
use Rattle.std.proofs.lemmas.Option.{slice_get-get_or}
use Rattle.std.specs.List.{slice_get}
use Rattle.std.proofs.lemmas.List.Elements.{Contains-get_or}
use Rattle.std.specs.Global.{Global}
use Rattle.std.specs.declared.rc.Rc.{Rc}
use Rattle.definitions.specs.Values.{Text, null, same_text}
use Rattle.definitions.specs.Lists.{has_repeat}
use Rattle.definitions.specs.Schemas.{Document, document_from, schemas_of}
use Rattle.definitions.specs.Reach.{holds_resource}
use Rattle.definitions.specs.Documents.{resources_of, resource_uris_of}
use Rattle.definition_laws.proofs.Membership.{nothing_in, is_first, is_later, first_or_later, found_there, found_some}
use Rattle.definition_laws.proofs.Resources.{one_document, root_opens}
use Rattle.definition_laws.proofs.StoredDocuments.{holds_itself}
use Rattle.schema_scan.specs.declared.compiled.Compiled.{Compiled}
use Rattle.linker.specs.Positions.{StandsAt, IsGap}
use Rattle.linker.specs.SharedDocuments.{shared_documents}
use Rattle.linker.specs.Sources.{embeds}
use Rattle.linker.specs.SoundLists.{shared_made}
use borrow.Author.Tests.{ltb-false, lt-ltb, le-ltb}

-- ---- the document with the URI as its canonical URI
pub own_resource : (d : Document) → d ≡ document_from d.base d.value → holds_resource d.canonical d ≡ true
own_resource d made = subst (λ (x : Document). holds_resource x.canonical x ≡ true) (sym made) (holds_itself d.base d.value)

-- of documents with distinct resource URIs the only one that holds a URI is the first
pub first_holder : (ds : List Document) (uri : Text) (d : Document) → has_repeat same_text (resource_uris_of ds) ≡ false → Contains ds d → holds_resource uri d ≡ true
    → find (holds_resource uri) ds ≡ Some d
first_holder ds uri d distinct c held =
    let some_one : (z : Document) × (find (holds_resource uri) ds ≡ Some z) = found_some (holds_resource uri) d ds c held in
    let there = found_there (holds_resource uri) ds some_one.0 some_one.1 in
    some_one.1 ∙ ap Some (one_document ds uri some_one.0 d distinct there.0 c there.1 held)

pub standing_number : (items : List (Rc Compiled Global)) (uri : Text) (at : ℕ) → has_repeat same_text (resource_uris_of (shared_documents items)) ≡ false
    → StandsAt (shared_documents items) uri at → find (holds_resource uri) (shared_documents items) ≡ slice_get (shared_documents items) at
standing_number items uri at distinct stands =
    let ds = shared_documents items in
    let own = get_or ds at (no_document uri) in
    let named : own.canonical ≡ uri = stands.named (no_document uri) in
    let inside : Contains ds own = Contains-get_or ds at (no_document uri) stands.inside in
    first_holder ds uri own distinct inside (ap (λ u. holds_resource u own) (sym named) ∙ own_resource own (shared_made items own inside))
    ∙ sym (slice_get-get_or ds at (no_document uri) stands.inside)
  where
    no_document : Text → Document
    no_document uri = record { canonical = uri; base = uri; value = null }

-- ---- where no document has it as its canonical URI
one_alone : (ts : List Text) (t u : Text) → nat_lt 1 (length ts) ≡ false → Contains ts t → Contains ts u → t ≡ u
one_alone [] t u few c k = absurd (nothing_in t c)
one_alone (x ∷ []) t u few c k = elim (first_or_later x t [] c) [
  | inl first ↦ elim (first_or_later x u [] k) [ inl second ↦ sym first ∙ second | inr none ↦ absurd (nothing_in u none) ]
  | inr none ↦ absurd (nothing_in t none)
]
one_alone (x ∷ y ∷ ts) t u few c k = absurd (omega (arith, ltb-false 1 (length (x ∷ y ∷ ts)) few))

pub embedded_at : (d : Document) (uri : Text) (b : Bool) → nat_lt 1 (length (resources_of d)) ≡ b → d ≡ document_from d.base d.value → d.canonical ≢ uri
    → (b && holds_resource uri d) ≡ holds_resource uri d
embedded_at d uri true several made other = refl
embedded_at d uri false few made other =
    sym (false_from_ne_true (holds_resource uri d) (λ held. other (one_alone (resources_of d) d.canonical uri few
    (root_opens (schemas_of d.base d.value) d.canonical (own_resource d made)) (root_opens (schemas_of d.base d.value) uri held))))

found_alike : {X : Type 0} (p q : X → Bool) (xs : List X) → ((x : X) → Contains xs x → p x ≡ q x) → find p xs ≡ find q xs
found_alike p q [] h = refl
found_alike p q (x ∷ xs) h = ap₂ (λ b o. cond b (Some x) o) (h x (is_first x xs)) (found_alike p q xs (λ y c. h y (is_later x y xs c)))

pub embedding_holder : (items : List (Rc Compiled Global)) (uri : Text) (at : ℕ) → IsGap (shared_documents items) uri at
    → find (embeds uri) (shared_documents items) ≡ find (holds_resource uri) (shared_documents items)
unfolding embeds
embedding_holder items uri at gap =
    found_alike (embeds uri) (holds_resource uri) (shared_documents items)
    (λ d c. embedded_at d uri (nat_lt 1 (length (resources_of d))) refl (shared_made items d c) (gap.absent d c))

-- ---- the code's test of it
pub as_many : (items : List (String Global)) (uris : List Text) → map string_bytes items ≡ uris → length items ≡ length uris
as_many items uris e = sym (length-map items string_bytes) ∙ ap length e

pub several : (d : Document) (uri : Text) (n : ℕ) → n ≡ length (resources_of d) → 1 < n → holds_resource uri d ≡ embeds uri d
unfolding embeds
several d uri n is more = ap (λ b. b && holds_resource uri d) (sym (lt-ltb 1 (length (resources_of d)) (omega arith)))

pub alone : (d : Document) (uri : Text) (n : ℕ) → n ≡ length (resources_of d) → n ≤ 1 → nat_lt 1 n ≡ embeds uri d
unfolding embeds
alone d uri n is few =
    le-ltb 1 n few ∙ ap (λ b. b && holds_resource uri d) (sym (le-ltb 1 (length (resources_of d)) (omega arith)))
