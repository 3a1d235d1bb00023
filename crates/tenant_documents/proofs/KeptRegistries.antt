-- What holds of a registry: its documents and the library's are sound, and stay so.
use Rattle.std.proofs.Common.{◌≡◌, ◌⊎◌, ℕ, ◌≤◌, Bool, true, false, not, List, [], ◌∷◌, None, Some, Contains, is_some, length, nat_lt, map, filter, Option, refl, sym, ap, ◌∙◌, subst, inl, inr, true≢false, arith}
use Rattle.std.proofs.lemmas.Bool.{ltb-false, false_from_ne_true}
use Rattle.std.proofs.lemmas.List.Filters.{sum_by-filter_both}
use Rattle.std.specs.Global.{Global}
use Rattle.std.specs.List.{list_any}
use Rattle.std.specs.declared.rc.Rc.{Rc}
use borrow.Author.Tests.{le-ltb}
use Rattle.definitions.specs.Documents.{document_of, others_of, documents_with, documents_of_both, bytes_of, taken_uri}
use Rattle.definitions.specs.Keeping.{IsKept}
use Rattle.definitions.specs.Patterns.{regular_search}
use Rattle.definitions.specs.Reach.{holds_resource}
use Rattle.definitions.specs.Registries.{put_refusal}
use Rattle.definitions.specs.Schemas.{Document, schemas_of}
use Rattle.definitions.specs.Searches.{is_regular}
use Rattle.definitions.specs.Texts.{text}
use Rattle.definitions.specs.Values.{Text, same_text}
use Rattle.lemmas.proofs.Texts.{same_text_itself, same_text_is}
use Rattle.definition_laws.proofs.AcceptedDocuments.{IsAccepted, accepted}
use Rattle.definition_laws.proofs.JoinedDocuments.{is_other, is_unequal}
use Rattle.definition_laws.proofs.Membership.{nothing_in, first_or_later, from_filter, filter_short, found_there}
use Rattle.definition_laws.proofs.PlacedDocuments.{from_placed}
use Rattle.definition_laws.proofs.Repeats.{any_none, none_of}
use Rattle.definition_laws.proofs.Resources.{opened_is_root, root_opens}
use Rattle.definition_laws.proofs.StoredDocuments.{free_is_unheld, kept_sound, taken_is_held}
use Rattle.schema_scan.specs.CompiledDocuments.{compiled_value, compiled_view}
use Rattle.schema_scan.specs.declared.compiled.Compiled.{Compiled}
use Rattle.linker.specs.ListedDocuments.{listed_documents}
use Rattle.linker.specs.SharedDocuments.{shared_documents}
use Rattle.linker.specs.Sources.{shares_resource}
use Rattle.linker.specs.SoundLists.{listed_sound}
use Rattle.linker.specs.Together.{together_sound, unshared_holds_none, shares_none, from_joined}
use Rattle.linker.proofs.BothSources.{in_joined}
use Rattle.linker.proofs.CanonicalHolders.{own_resource}
use Rattle.linker.proofs.Positions.{ascend_distinct}
use Rattle.stored_documents.specs.DocumentLists.{documents_in}
use Rattle.stored_documents.specs.KeptDocuments.{kept_documents}
use Rattle.tenant_documents.specs.Registries.{registry_view}
use Rattle.tenant_documents.specs.declared.registry.Registry.{Registry}
use Rattle.tenant_documents.proofs.Holders.{AreBoth}

-- ---- documents and a library's
-- no document has the canonical URI of one of the library's
pub unowned : (ds ls : List Document) (d : Document) → AreBoth ds ls → Contains ds d → is_some (document_of ls d.canonical) ≡ false
unowned ds ls d both c = no_name (document_of ls d.canonical) refl
  where
    no_name : (o : Option Document) → document_of ls d.canonical ≡ o → is_some o ≡ false
    no_name None e = refl
    no_name (Some l) e =
        let there = found_there (λ (x : Document). same_text d.canonical x.canonical) ls l e in
        let named : d.canonical ≡ l.canonical = same_text_is d.canonical l.canonical there.1 in
        let free = unshared_holds_none ds l d (none_of (shares_resource ds) l ls both.apart there.0) c l.canonical
        (root_opens (schemas_of l.base l.value) l.canonical (own_resource l (both.library.made l there.0))) in
        absurd (true≢false (sym (ap (λ u. holds_resource u d) (sym named) ∙ own_resource d (both.own.made d c)) ∙ free))

in_both : (ds ls : List Document) (x : Document) → AreBoth ds ls → Contains ls x ⊎ Contains ds x → Contains (documents_of_both ls ds) x
in_both ds ls x both there =
    in_joined ls ds x (ascend_distinct ls both.library.ascend)
    (λ l e c k. is_unequal e.canonical l (is_other ls e.canonical l (unowned ds ls e both k) c)) there

-- one that is put shares no resource with the library, where it is none of the library's and none of its URIs is taken
pub put_apart : (ds ls : List Document) (d : Document) → AreBoth ds ls → is_some (document_of ls d.canonical) ≡ false → taken_uri (documents_of_both ls ds) d ≡ None
    → list_any (shares_resource (documents_with d ds)) ls ≡ false
put_apart ds ls d both none free =
    any_none (shares_resource (documents_with d ds)) ls (λ l c. shares_none (documents_with d ds) l (λ e k u own. elim (from_placed d e ds k) [
      | inl itself ↦ subst (λ x. holds_resource u x ≡ false) itself (false_from_ne_true (holds_resource u d) (λ held.
          free_is_unheld (documents_of_both ls ds) d u free (root_opens (schemas_of d.base d.value) u held)
          (record {
            other = l;
            inside = in_both ds ls l both (inl c);
            differs = is_unequal d.canonical l (is_other ls d.canonical l none c);
            holds = opened_is_root (schemas_of l.base l.value) u u own (same_text_itself u);
          })))
      | inr there ↦ unshared_holds_none ds l e (none_of (shares_resource ds) l ls both.apart c) there u own
    ]))

-- nor does a part of them
pub part_apart : (p : Document → Bool) (ds ls : List Document) → list_any (shares_resource ds) ls ≡ false → list_any (shares_resource (filter p ds)) ls ≡ false
part_apart p ds ls apart =
    any_none (shares_resource (filter p ds)) ls (λ l c. shares_none (filter p ds) l (λ e k u own.
    unshared_holds_none ds l e (none_of (shares_resource ds) l ls apart c) (from_filter p e ds k).0 u own))

-- no URI of the document is another's of a part of what is seen
pub free_of_own : (ds ls : List Document) (d : Document) → AreBoth ds ls → taken_uri (documents_of_both ls ds) d ≡ None → taken_uri ds d ≡ None
free_of_own ds ls d both free = not_taken (taken_uri ds d) refl
  where
    not_taken : (o : Option Text) → taken_uri ds d ≡ o → o ≡ None
    not_taken None e = refl
    not_taken (Some u) e =
        let held = taken_is_held ds d u e in
        absurd (free_is_unheld (documents_of_both ls ds) d u free held.own
        (record {
          other = held.held.other;
          inside = in_both ds ls held.held.other both (inr held.held.inside);
          differs = held.held.differs;
          holds = held.held.holds;
        }))

-- ---- a library's documents
shared_regular : (ds : List (Rc Compiled Global)) (d : Document) → Contains (shared_documents ds) d → is_regular regular_search d.value ≡ true
unfolding shared_documents compiled_value
shared_regular [] d c = absurd (nothing_in d c)
shared_regular (x ∷ xs) d c = elim (first_or_later (compiled_view x.value) d (map (λ (y : Rc Compiled Global). compiled_view y.value) xs) c) [
  | inl same ↦ subst (λ (e : Document). is_regular regular_search e.value ≡ true) same x.value.regular
  | inr later ↦ shared_regular xs d later
]

-- ---- a registry
pub registry_both : (r : Registry) → AreBoth (documents_in r.documents) (listed_documents r.library.value)
registry_both r = record {
  own = kept_sound regular_search (documents_in r.documents) (kept_documents r.documents);
  library = listed_sound r.library.value;
  apart = r.apart;
}

pub registry_kept : (r : Registry) → IsKept regular_search (registry_view r)
unfolding registry_view
registry_kept r =
    let ds = documents_in r.documents in
    let ls = listed_documents r.library.value in
    let both = registry_both r in
    let sound = together_sound ds ls both.own both.library both.apart in
    record {
      ordered = both.own.ascend;
      few = ltb-false r.most_documents (length ds) r.few;
      small = ltb-false r.most_bytes (bytes_of ds) r.small;
      apart = λ d c. unowned ds ls d both c;
      seen = record {
        ordered = sound.ascend;
        named = sound.made;
        distinct = sound.distinct;
        scanned = sound.faultless;
        regular_patterns = λ d c. elim (from_joined ls ds d c) [
          | inl listed ↦ shared_regular r.library.value.documents.items d listed
          | inr own ↦ (kept_documents r.documents).regular_patterns d own
        ];
      };
    }

-- ---- fewer documents
pub fewer : (most : ℕ) (p : Document → Bool) (ds : List Document) → nat_lt most (length ds) ≡ false → nat_lt most (length (filter p ds)) ≡ false
fewer most p ds few = le-ltb most (length (filter p ds)) (omega (arith, ltb-false most (length ds) few, filter_short p ds))

pub smaller : (most : ℕ) (p : Document → Bool) (ds : List Document) → nat_lt most (bytes_of ds) ≡ false → nat_lt most (bytes_of (filter p ds)) ≡ false
smaller most p ds small =
    le-ltb most (bytes_of (filter p ds))
    (omega (arith, ltb-false most (bytes_of ds) small, sum_by-filter_both p (λ d. not (p d)) (λ d. refl) (λ (d : Document). length (text d.value)) ds))

-- ---- none
pub few_of_none : (most : ℕ) (ds : List Document) → ds ≡ [] → nat_lt most (length ds) ≡ false
few_of_none most ds e = le-ltb most (length ds) (omega (arith, ap length e))

pub small_of_none : (most : ℕ) (ds : List Document) → ds ≡ [] → nat_lt most (bytes_of ds) ≡ false
small_of_none most ds e = le-ltb most (bytes_of ds) (omega (arith, ap bytes_of e))

pub apart_of_none : (ds ls : List Document) → ds ≡ [] → list_any (shares_resource ds) ls ≡ false
apart_of_none ds ls e =
    any_none (shares_resource ds) ls (λ l c. shares_none ds l (λ d k u own. absurd (nothing_in d (subst (λ es. Contains es d) e k))))

-- ---- after a request
pub record IsWithin (r : Registry) (ds : List Document) : Type 0 where
  pub few : nat_lt r.most_documents (length ds) ≡ false
  pub small : nat_lt r.most_bytes (bytes_of ds) ≡ false
  pub apart : list_any (shares_resource ds) (listed_documents r.library.value) ≡ false

pub accepted_by : (r : Registry) (d : Document) → put_refusal regular_search (registry_view r) d (documents_with d (documents_in r.documents)) ≡ None
    → IsAccepted regular_search (registry_view r) d (documents_with d (documents_in r.documents))
accepted_by r d none = accepted regular_search (registry_view r) d (documents_with d (documents_in r.documents)) none

pub free_in : (r : Registry) (d : Document) → put_refusal regular_search (registry_view r) d (documents_with d (documents_in r.documents)) ≡ None
    → taken_uri (documents_in r.documents) d ≡ None
unfolding registry_view
free_in r d none = free_of_own (documents_in r.documents) (listed_documents r.library.value) d (registry_both r) (accepted_by r d none).free

pub bytes_within : (r : Registry) (d : Document) → put_refusal regular_search (registry_view r) d (documents_with d (documents_in r.documents)) ≡ None
    → bytes_of (documents_with d (documents_in r.documents)) ≤ r.most_bytes
unfolding registry_view
bytes_within r d none = ltb-false r.most_bytes (bytes_of (documents_with d (documents_in r.documents))) (accepted_by r d none).small

pub within_after_put : (r : Registry) (d : Document) (new : List Document) → put_refusal regular_search (registry_view r) d (documents_with d (documents_in r.documents)) ≡ None
    → (new ≡ documents_with d (documents_in r.documents)) ⊎ (new ≡ documents_in r.documents) → IsWithin r new
unfolding registry_view
within_after_put r d new none (inl put) =
    let fine = accepted_by r d none in
    subst (IsWithin r) (sym put)
    (record { few = fine.few; small = fine.small; apart = put_apart (documents_in r.documents) (listed_documents r.library.value) d (registry_both r) fine.unowned fine.free })
within_after_put r d new none (inr kept) = subst (IsWithin r) (sym kept) (record { few = r.few; small = r.small; apart = r.apart })

pub within_after_delete : (r : Registry) (uri : Text) (new : List Document) → new ≡ others_of uri (documents_in r.documents) → IsWithin r new
within_after_delete r uri new e =
    let others = λ (d : Document). not (same_text uri d.canonical) in
    subst (IsWithin r) (sym e)
    (record {
      few = fewer r.most_documents others (documents_in r.documents) r.few;
      small = smaller r.most_bytes others (documents_in r.documents) r.small;
      apart = part_apart others (documents_in r.documents) (listed_documents r.library.value) r.apart;
    })
