-- The resource URIs of several documents, each once more where something else has it: those that stand twice are taken.
use Rattle.std.proofs.Common.{◌≡◌, ◌⊎◌, Bool, true, false, cond, not, List, [], ◌∷◌, ◌++◌, flat_map, filter, Contains, sym, ap, ◌∙◌, subst, inl, inr, true≢false}
use Rattle.std.proofs.lemmas.Bool.{or_parts, not-true}
use Rattle.std.specs.List.{list_any}
use Rattle.definitions.specs.Batches.{repeats, taken_by}
use Rattle.definitions.specs.Documents.{canonicals, others_of, resources_of, resource_uris_of, taken_uris}
use Rattle.definitions.specs.Lists.{has_repeat}
use Rattle.definitions.specs.Reach.{holds_resource, least}
use Rattle.definitions.specs.Schemas.{Document, schemas_of}
use Rattle.definitions.specs.Values.{Text, same_text}
use Rattle.lemmas.proofs.Texts.{same_text_itself, same_text_differs}
use Rattle.definition_laws.proofs.Membership.{nothing_in, is_first, is_later, first_or_later, any_at, any_where, in_filter, from_filter, in_map}
use Rattle.definition_laws.proofs.Repeats.{in_flat_map, from_flat_map}
use Rattle.definition_laws.proofs.Resources.{opened_is_root, root_opens}
use Rattle.tenant_documents.proofs.RepeatedTexts.{stands_any, repeated_stands, from_both, in_first, in_shared, in_second, least_alike}

-- ---- a list without repeats
none_at : (b : Bool) (t u : Text) (ts : List Text) → b ≡ false → Contains (cond b (t ∷ ts) ts) u → Contains ts u
none_at true t u ts e c = absurd (true≢false e)
none_at false t u ts e c = c

nothing_twice : (ts : List Text) (u : Text) → has_repeat same_text ts ≡ false → Contains (repeats ts) u → ⊥
nothing_twice [] u e c = nothing_in u c
nothing_twice (t ∷ ts) u e c =
    let parts = or_parts (list_any (same_text t) ts) (has_repeat same_text ts) e in
    nothing_twice ts u parts.1 (none_at (list_any (same_text t) ts) t u (repeats ts) parts.0 c)

-- ---- two documents
-- two of the documents, with two canonical URIs, have the resource
pub record IsShared (ds : List Document) (u : Text) : Type 0 where
  pub first : Document
  pub second : Document
  pub first_there : Contains ds first
  pub second_there : Contains ds second
  pub differ : first.canonical ≡ second.canonical → ⊥
  pub first_has : Contains (resources_of first) u
  pub second_has : Contains (resources_of second) u

-- each document's own resources are distinct
abbrev pub AreDistinctEach : List Document → Type 0
AreDistinctEach ds = (d : Document) → Contains ds d → has_repeat same_text (resources_of d) ≡ false

pub repeated_is_shared : (ds : List Document) (u : Text) → has_repeat same_text (canonicals ds) ≡ false → AreDistinctEach ds
    → Contains (repeats (resource_uris_of ds)) u → IsShared ds u
repeated_is_shared [] u once each c = absurd (nothing_in u c)
repeated_is_shared (d ∷ ds) u once each c =
    let parts = or_parts (list_any (same_text d.canonical) (canonicals ds)) (has_repeat same_text (canonicals ds)) once in
    elim (from_both (resources_of d) (resource_uris_of ds) u c) [
      | inl own ↦ absurd (nothing_twice (resources_of d) u (each d (is_first d ds)) own)
      | inr rest ↦ elim rest [
        | inl both ↦ (
            let found : (e : Document) × (Contains ds e × Contains (resources_of e) u) = from_flat_map resources_of u ds both.1 in
            record {
              first = d;
              second = found.0;
              first_there = is_first d ds;
              second_there = is_later d found.0 ds found.1.0;
              differ = λ same. true≢false (sym (stands_any d.canonical (canonicals ds) (subst (Contains (canonicals ds)) (sym same) (in_map (λ (x : Document). x.canonical) found.0 ds found.1.0))) ∙ parts.0);
              first_has = both.0;
              second_has = found.1.1;
            })
        | inr later ↦ (
            let more = repeated_is_shared ds u parts.1 (λ e k. each e (is_later d e ds k)) later in
            record {
              first = more.first;
              second = more.second;
              first_there = is_later d more.first ds more.first_there;
              second_there = is_later d more.second ds more.second_there;
              differ = more.differ;
              first_has = more.first_has;
              second_has = more.second_has;
            })
      ]
    ]

pub shared_is_repeated : (ds : List Document) (d e : Document) (u : Text) → Contains ds d → Contains ds e → (d.canonical ≡ e.canonical → ⊥)
    → Contains (resources_of d) u → Contains (resources_of e) u → Contains (repeats (resource_uris_of ds)) u
shared_is_repeated [] d e u c k differ in_d in_e = absurd (nothing_in d c)
shared_is_repeated (x ∷ ds) d e u c k differ in_d in_e = elim (first_or_later x d ds c) [
  | inl here ↦ elim (first_or_later x e ds k) [
    | inl both ↦ absurd (differ (ap (λ (y : Document). y.canonical) (sym here ∙ both)))
    | inr later ↦ in_shared (resources_of x) (resource_uris_of ds) u (subst (λ y. Contains (resources_of y) u) (sym here) in_d) (in_flat_map resources_of e u ds later in_e)
  ]
  | inr there ↦ elim (first_or_later x e ds k) [
    | inl here ↦ in_shared (resources_of x) (resource_uris_of ds) u (subst (λ y. Contains (resources_of y) u) (sym here) in_e) (in_flat_map resources_of d u ds there in_d)
    | inr later ↦ in_second (resources_of x) (resource_uris_of ds) u (shared_is_repeated ds d e u there later differ in_d in_e)
  ]
]

-- ---- claims
-- all resource URIs, and those once more that pass the test
abbrev pub claimed_uris : (Text → Bool) → List Document → List Text
claimed_uris held ds = resource_uris_of ds ++ filter held (resource_uris_of ds)

-- a document with another canonical URI than all these holds the resource
pub record IsHeldOutside (all ds : List Document) (u : Text) : Type 0 where
  pub holder : Document
  pub there : Contains all holder
  pub apart : (d : Document) → Contains ds d → d.canonical ≡ holder.canonical → ⊥
  pub holds : holds_resource u holder ≡ true

-- the test passes for resources of documents outside these
pub record TellsHeld (held : Text → Bool) (all ds : List Document) : Type 0 where
  pub inside : (d : Document) → Contains ds d → Contains all d
  pub outside : (u : Text) → held u ≡ true → IsHeldOutside all ds u
  pub others : (e : Document) (u : Text) → Contains all e → holds_resource u e ≡ true → Contains ds e ⊎ (held u ≡ true)

has_itself : (d : Document) (u : Text) → Contains (resources_of d) u → holds_resource u d ≡ true
has_itself d u c = opened_is_root (schemas_of d.base d.value) u u c (same_text_itself u)

unlike : (t u : Text) → (t ≡ u → ⊥) → not (same_text t u) ≡ true
unlike t u h = ap not (same_text_differs t u h)

is_taken : (all ds : List Document) (d e : Document) (u : Text) → Contains ds d → Contains all e → (d.canonical ≡ e.canonical → ⊥)
    → Contains (resources_of d) u → holds_resource u e ≡ true → Contains (flat_map (taken_uris all) ds) u
is_taken all ds d e u c k differ own holds =
    in_flat_map (taken_uris all) d u ds c
    (in_filter (λ t. list_any (holds_resource t) (others_of d.canonical all)) u (resources_of d) own
    (any_at (holds_resource u) e (others_of d.canonical all)
    (in_filter (λ x. not (same_text d.canonical x.canonical)) e all k (unlike d.canonical e.canonical differ))
    holds))

module _ (held : Text → Bool) (all ds : List Document) (once : has_repeat same_text (canonicals ds) ≡ false) (each : AreDistinctEach ds) (tells : TellsHeld held all ds) where
  claimed_is_taken : (u : Text) → Contains (repeats (claimed_uris held ds)) u → Contains (flat_map (taken_uris all) ds) u
  claimed_is_taken u c = elim (from_both (resource_uris_of ds) (filter held (resource_uris_of ds)) u c) [
    | inl own ↦ (
        let two = repeated_is_shared ds u once each own in
        is_taken all ds two.first two.second u two.first_there (tells.inside two.second two.second_there) two.differ two.first_has (has_itself two.second u two.second_has))
    | inr rest ↦ elim rest [
      | inl both ↦ from_held (from_filter held u (resource_uris_of ds) both.1)
      | inr twice ↦ from_held (from_filter held u (resource_uris_of ds) (repeated_stands (filter held (resource_uris_of ds)) u twice))
    ]
  ]
    where
      from_held : Contains (resource_uris_of ds) u × (held u ≡ true) → Contains (flat_map (taken_uris all) ds) u
      from_held h =
          let found : (d : Document) × (Contains ds d × Contains (resources_of d) u) = from_flat_map resources_of u ds h.0 in
          let by = tells.outside u h.1 in
          is_taken all ds found.0 by.holder u found.1.0 by.there (by.apart found.0 found.1.0) found.1.1 by.holds

  taken_is_claimed : (u : Text) → Contains (flat_map (taken_uris all) ds) u → Contains (repeats (claimed_uris held ds)) u
  taken_is_claimed u c =
      let found : (d : Document) × (Contains ds d × Contains (taken_uris all d) u) = from_flat_map (taken_uris all) u ds c in
      let own = from_filter (λ t. list_any (holds_resource t) (others_of found.0.canonical all)) u (resources_of found.0) found.1.1 in
      let by : (e : Document) × (Contains (others_of found.0.canonical all) e × (holds_resource u e ≡ true)) = any_where (holds_resource u) (others_of found.0.canonical all) own.1 in
      let other = from_filter (λ x. not (same_text found.0.canonical x.canonical)) by.0 all by.1.0 in
      let uris = resource_uris_of ds in
      elim (tells.others by.0 u other.0 by.1.1) [
        | inl also ↦ in_first uris (filter held uris) u
            (shared_is_repeated ds found.0 by.0 u found.1.0 also (differs found.0 by.0 other.1) own.0 (root_opens (schemas_of by.0.base by.0.value) u by.1.1))
        | inr passes ↦ (let there = in_flat_map resources_of found.0 u ds found.1.0 own.0 in in_shared uris (filter held uris) u there (in_filter held u uris there passes))
      ]
    where
      differs : (d e : Document) → not (same_text d.canonical e.canonical) ≡ true → d.canonical ≡ e.canonical → ⊥
      differs d e h same =
          true≢false (sym (subst (λ t. same_text d.canonical t ≡ true) same (same_text_itself d.canonical)) ∙ not-true (same_text d.canonical e.canonical) h)

  pub claimed_are_taken : taken_by all ds ≡ least (repeats (claimed_uris held ds))
  claimed_are_taken = least_alike (flat_map (taken_uris all) ds) (repeats (claimed_uris held ds)) taken_is_claimed claimed_is_taken
