-- What holds of a batch that isn't refused: its documents can be stored together, and the registry is within its limits then.
use Rattle.std.proofs.Common.{◌≡◌, ◌⊎◌, ◌≤◌, Bool, true, false, not, List, [], ◌∷◌, flat_map, length, nat_lt, Contains, None, is_some, refl, sym, ap, subst, inl, inr}
use Rattle.std.proofs.lemmas.Bool.{ltb-false, false_from_ne_true}
use Rattle.std.specs.List.{list_any}
use Rattle.definitions.specs.Batches.{batch_refusal, repeated_uri, taken_by}
use Rattle.definitions.specs.Documents.{bytes_of, document_of, documents_of_both, documents_with_all, others_of, resources_of, taken_uris}
use Rattle.definitions.specs.Reach.{holds_resource, least}
use Rattle.definitions.specs.Schemas.{Document, schemas_of}
use Rattle.definitions.specs.Values.{Text, same_text}
use Rattle.lemmas.proofs.Texts.{same_text_itself}
use Rattle.definition_laws.proofs.AcceptedBatches.{granted_by}
use Rattle.definition_laws.proofs.JoinedDocuments.{from_all, is_other, is_unequal}
use Rattle.definition_laws.proofs.LeastTexts.{no_least}
use Rattle.definition_laws.proofs.Membership.{nothing_in, is_first, any_at, any_where, in_filter, from_filter}
use Rattle.definition_laws.proofs.Repeats.{any_none, none_of, in_flat_map, from_flat_map}
use Rattle.definition_laws.proofs.Resources.{opened_is_root, root_opens}
use Rattle.linker.specs.ListedDocuments.{listed_documents}
use Rattle.linker.specs.Sources.{shares_resource}
use Rattle.linker.specs.Together.{unshared_holds_none, shares_none}
use Rattle.linker.proofs.BothSources.{in_joined}
use Rattle.linker.proofs.Positions.{ascend_distinct}
use Rattle.stored_documents.specs.DocumentLists.{documents_in}
use Rattle.tenant_documents.specs.Registries.{registry_view}
use Rattle.tenant_documents.specs.declared.registry.Registry.{Registry}
use Rattle.tenant_documents.proofs.Holders.{AreBoth}
use Rattle.tenant_documents.proofs.KeptRegistries.{IsWithin, registry_both, unowned}

none_there : (ts : List Text) → ((u : Text) → Contains ts u → ⊥) → least ts ≡ None
none_there [] h = refl
none_there (t ∷ ts) h = absurd (h t (is_first t ts))

-- ---- what is taken
-- of a document among them, by another of all
is_taken : (all ds : List Document) (d e : Document) (u : Text) → Contains ds d → Contains all e → not (same_text d.canonical e.canonical) ≡ true
    → Contains (resources_of d) u → holds_resource u e ≡ true → Contains (flat_map (taken_uris all) ds) u
is_taken all ds d e u c k differ own holds =
    in_flat_map (taken_uris all) d u ds c
    (in_filter (λ t. list_any (holds_resource t) (others_of d.canonical all)) u (resources_of d) own
    (any_at (holds_resource u) e (others_of d.canonical all)
    (in_filter (λ x. not (same_text d.canonical x.canonical)) e all k differ)
    holds))

-- what is taken among some of them is taken among all
taken_more : (some all ds : List Document) → ((d : Document) → Contains some d → Contains all d) → (u : Text) → Contains (flat_map (taken_uris some) ds) u
    → Contains (flat_map (taken_uris all) ds) u
taken_more some all ds within u c =
    let found : (d : Document) × (Contains ds d × Contains (taken_uris some d) u) = from_flat_map (taken_uris some) u ds c in
    let own = from_filter (λ t. list_any (holds_resource t) (others_of found.0.canonical some)) u (resources_of found.0) found.1.1 in
    let by : (e : Document) × (Contains (others_of found.0.canonical some) e × (holds_resource u e ≡ true)) = any_where (holds_resource u) (others_of found.0.canonical some) own.1 in
    let other = from_filter (λ x. not (same_text found.0.canonical x.canonical)) by.0 some by.1.0 in
    is_taken all ds found.0 by.0 u found.1.0 (within by.0 other.0) other.1 own.0 by.1.1

untaken : (all ds : List Document) (u : Text) → taken_by all ds ≡ None → Contains (flat_map (taken_uris all) ds) u → ⊥
untaken all ds u free c = nothing_in u (subst (λ us. Contains us u) (no_least (flat_map (taken_uris all) ds) free) c)

free_within : (some all ds : List Document) → ((d : Document) → Contains some d → Contains all d) → taken_by all ds ≡ None → taken_by some ds ≡ None
free_within some all ds within free = none_there (flat_map (taken_uris some) ds) (λ u c. untaken all ds u free (taken_more some all ds within u c))

-- ---- documents that are put beside a library's
-- the library has a document of one of their canonical URIs
abbrev owns_any : List Document → List Document → Bool
owns_any ls ds = list_any (λ (d : Document). is_some (document_of ls d.canonical)) ds

unowned_then : (ds own ls : List Document) (d : Document) → AreBoth own ls → owns_any ls ds ≡ false → Contains (documents_with_all ds own) d
    → is_some (document_of ls d.canonical) ≡ false
unowned_then ds own ls d both none c = elim (from_all ds own d c) [
  | inl new ↦ none_of (λ (x : Document). is_some (document_of ls x.canonical)) d ds none new
  | inr old ↦ unowned own ls d both old
]

seen_then : (ds own ls : List Document) (x : Document) → AreBoth own ls → owns_any ls ds ≡ false → Contains ls x ⊎ Contains (documents_with_all ds own) x
    → Contains (documents_of_both ls (documents_with_all ds own)) x
seen_then ds own ls x both none there =
    in_joined ls (documents_with_all ds own) x (ascend_distinct ls both.library.ascend)
    (λ l e c k. is_unequal e.canonical l (is_other ls e.canonical l (unowned_then ds own ls e both none k) c)) there

-- they share no resource with it
apart_then : (ds own ls : List Document) → AreBoth own ls → owns_any ls ds ≡ false → taken_by (documents_of_both ls (documents_with_all ds own)) ds ≡ None
    → list_any (shares_resource (documents_with_all ds own)) ls ≡ false
apart_then ds own ls both none free =
    let after = documents_with_all ds own in
    any_none (shares_resource after) ls (λ l c. shares_none after l (λ e k u has. elim (from_all ds own e k) [
      | inl new ↦ false_from_ne_true (holds_resource u e) (λ held.
          untaken (documents_of_both ls after) ds u free
          (is_taken (documents_of_both ls after) ds e l u new (seen_then ds own ls l both none (inl c))
          (ap not (is_other ls e.canonical l (unowned_then ds own ls e both none k) c))
          (root_opens (schemas_of e.base e.value) u held)
          (opened_is_root (schemas_of l.base l.value) u u has (same_text_itself u))))
      | inr old ↦ unshared_holds_none own l e (none_of (shares_resource own) l ls both.apart c) old u has
    ]))

-- ---- a registry
-- these can be stored together
pub record AreGranted (r : Registry) (ds : List Document) : Type 0 where
  pub once : repeated_uri ds ≡ None
  pub free : taken_by (documents_with_all ds (documents_in r.documents)) ds ≡ None
  pub small : bytes_of (documents_with_all ds (documents_in r.documents)) ≤ r.most_bytes
  pub within : IsWithin r (documents_with_all ds (documents_in r.documents))

pub are_granted : (r : Registry) (ds : List Document) → batch_refusal (registry_view r) ds (documents_with_all ds (documents_in r.documents)) ≡ None → AreGranted r ds
unfolding registry_view
are_granted r ds none =
    let own = documents_in r.documents in
    let ls = listed_documents r.library.value in
    let after = documents_with_all ds own in
    let both = registry_both r in
    let parts = granted_by (repeated_uri ds) (owns_any ls ds) (taken_by (documents_of_both ls after) ds) (nat_lt r.most_documents (length after)) (nat_lt r.most_bytes (bytes_of after)) none in
    record {
      once = parts.0;
      free = free_within after (documents_of_both ls after) ds (λ d c. seen_then ds own ls d both parts.1.0 (inr c)) parts.1.1.0;
      small = ltb-false r.most_bytes (bytes_of after) parts.1.1.1.1;
      within = record { few = parts.1.1.1.0; small = parts.1.1.1.1; apart = apart_then ds own ls both parts.1.0 parts.1.1.0 };
    }

pub within_after_all : (r : Registry) (ds new : List Document) → AreGranted r ds
    → (new ≡ documents_with_all ds (documents_in r.documents)) ⊎ (new ≡ documents_in r.documents) → IsWithin r new
within_after_all r ds new granted (inl put) = subst (IsWithin r) (sym put) granted.within
within_after_all r ds new granted (inr kept) = subst (IsWithin r) (sym kept) (record { few = r.few; small = r.small; apart = r.apart })
