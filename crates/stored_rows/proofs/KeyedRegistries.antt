-- Registries by keys with distinct digests, and one in another's place.
use Rattle.std.proofs.Common.{◌≡◌, ◌≢◌, ◌⊎◌, Bool, true, false, cond, List, [], ◌∷◌, Contains, Some, map, sym, refl, ap, ◌∙◌, subst, inl, inr, true≢false}
use Rattle.std.specs.Cmp.Lexicographic.{bytes_decides}
use Rattle.definitions.specs.Documents as documents
use Rattle.definitions.specs.Lists.{has_repeat}
use Rattle.definitions.specs.Registries.{Registry}
use Rattle.definitions.specs.Services.{KeyedRegistry, registry_of, with_registry}
use Rattle.definitions.specs.Values.{Text, same_text}
use Rattle.lemmas.proofs.SomeValues.{some_same, none_some}
use Rattle.lemmas.proofs.Texts.{same_text_is, same_text_itself}
use Rattle.definition_laws.proofs.Membership.{nothing_in, is_first, is_later, first_or_later, one_of}
use Rattle.definition_laws.proofs.ReachedSets.{same_text-back}
use Rattle.stored_rows.specs.Restoring.{HaveDistinctDigests, emptied, without_documents}
use Rattle.stored_rows.specs.Rows.{digest}
use Rattle.stored_rows.proofs.RegistryRows.{AllAscend, first_digest, later_digests}

-- ---- found by a key
pub record IsFound (ks : List KeyedRegistry) (key : Text) (g : Registry) : Type 0 where
  pub keyed : KeyedRegistry
  pub among : Contains ks keyed
  pub has_key : keyed.key ≡ key
  pub has_registry : keyed.registry ≡ g

found_at : (k : KeyedRegistry) (ks : List KeyedRegistry) (key : Text) (g : Registry) (b : Bool) → same_text key k.key ≡ b
    → (registry_of ks key ≡ Some g → IsFound ks key g) → cond b (Some k.registry) (registry_of ks key) ≡ Some g → IsFound (k ∷ ks) key g
found_at k ks key g true e more is = record { keyed = k; among = is_first k ks; has_key = sym (same_text_is key k.key e); has_registry = some_same is }
found_at k ks key g false e more is =
    let rest = more is in
    record { keyed = rest.keyed; among = is_later k rest.keyed ks rest.among; has_key = rest.has_key; has_registry = rest.has_registry }

pub found : (ks : List KeyedRegistry) (key : Text) (g : Registry) → registry_of ks key ≡ Some g → IsFound ks key g
found [] key g is = absurd (none_some is)
found (k ∷ ks) key g is = found_at k ks key g (same_text key k.key) refl (found ks key g) is

-- one at most has a digest
pub one_keyed : (ks : List KeyedRegistry) (k l : KeyedRegistry) → HaveDistinctDigests ks → Contains ks k → Contains ks l → digest k.key ≡ digest l.key → k ≡ l
one_keyed ks k l distinct c d same =
    one_of same_text (λ (m : KeyedRegistry). digest m.key) same_text-back ks distinct k l c d ((bytes_decides (digest k.key) (digest l.key)).1 same)

there_at : (k l : KeyedRegistry) (ks : List KeyedRegistry) (b : Bool) → HaveDistinctDigests (l ∷ ks) → Contains (l ∷ ks) k → same_text k.key l.key ≡ b
    → (Contains ks k → registry_of ks k.key ≡ Some k.registry) → cond b (Some l.registry) (registry_of ks k.key) ≡ Some k.registry
there_at k l ks true distinct c e more =
    ap (λ (m : KeyedRegistry). Some m.registry) (one_keyed (l ∷ ks) l k distinct (is_first l ks) c (ap digest (sym (same_text_is k.key l.key e))))
there_at k l ks false distinct c e more = elim (first_or_later l k ks c) [
  | inl same ↦ absurd (true≢false (sym (ap (λ (m : KeyedRegistry). same_text k.key m.key) same ∙ same_text_itself k.key) ∙ e))
  | inr later ↦ more later
]

pub found_there : (ks : List KeyedRegistry) (k : KeyedRegistry) → HaveDistinctDigests ks → Contains ks k → registry_of ks k.key ≡ Some k.registry
found_there [] k distinct c = absurd (nothing_in k c)
found_there (l ∷ ks) k distinct c = there_at k l ks (same_text k.key l.key) distinct c refl (found_there ks k (later_digests l ks distinct))

-- ---- a registry in the key's place
pub same_digests : (ks : List KeyedRegistry) (key : Text) (h : Registry) → map (λ k. digest k.key) (with_registry ks key h) ≡ map (λ k. digest k.key) ks
same_digests [] key h = refl
same_digests (k ∷ ks) key h = by (same_text key k.key) (same_digests ks key h)
  where
    by : (b : Bool) → map (λ m. digest m.key) (with_registry ks key h) ≡ map (λ m. digest m.key) ks
        → map (λ m. digest m.key) (cond b (record k { registry = h } ∷ ks) (k ∷ with_registry ks key h)) ≡ digest k.key ∷ map (λ m. digest m.key) ks
    by true more = refl
    by false more = ap (λ l. digest k.key ∷ l) more

pub still_distinct : (ks : List KeyedRegistry) (key : Text) (h : Registry) → HaveDistinctDigests ks → HaveDistinctDigests (with_registry ks key h)
still_distinct ks key h distinct = ap (has_repeat same_text) (same_digests ks key h) ∙ distinct

-- the key's, which has this registry now, or another as it was
abbrev pub IsOwnOrOther : List KeyedRegistry → Text → Registry → KeyedRegistry → Type 0
IsOwnOrOther ks key h m = ((m.key ≡ key) × (m.registry ≡ h)) ⊎ (Contains ks m × (digest m.key ≡ digest key → ⊥))

own_or_other_at : (k m : KeyedRegistry) (ks : List KeyedRegistry) (key : Text) (h : Registry) (b : Bool) → same_text key k.key ≡ b → HaveDistinctDigests (k ∷ ks)
    → (keyed : (l : KeyedRegistry) × (Contains (k ∷ ks) l × (l.key ≡ key)))
    → (((l : KeyedRegistry) × (Contains ks l × (l.key ≡ key))) → Contains (with_registry ks key h) m → IsOwnOrOther ks key h m)
    → Contains (cond b (record k { registry = h } ∷ ks) (k ∷ with_registry ks key h)) m → IsOwnOrOther (k ∷ ks) key h m
own_or_other_at k m ks key h true e distinct keyed more c = elim (first_or_later (record k { registry = h }) m ks c) [
  | inl same ↦ inl (ap (λ (l : KeyedRegistry). l.key) (sym same) ∙ sym (same_text_is key k.key e), ap (λ (l : KeyedRegistry). l.registry) (sym same))
  | inr later ↦ inr (is_later k m ks later, λ alike. first_digest k m ks distinct later (ap digest (sym (same_text_is key k.key e)) ∙ sym alike))
]
own_or_other_at k m ks key h false e distinct keyed more c =
    let rest : (l : KeyedRegistry) × (Contains ks l × (l.key ≡ key)) = elim (first_or_later k keyed.0 ks keyed.1.0) [
      | inl same ↦ absurd (true≢false (sym (ap (same_text key) (ap (λ (l : KeyedRegistry). l.key) same ∙ keyed.1.1) ∙ same_text_itself key) ∙ e))
      | inr later ↦ (keyed.0, (later, keyed.1.1))
    ] in
    elim (first_or_later k m (with_registry ks key h) c) [
      | inl same ↦ inr (subst (Contains (k ∷ ks)) same (is_first k ks), λ alike. first_digest k rest.0 ks distinct rest.1.0 (ap (λ (l : KeyedRegistry). digest l.key) same ∙ alike ∙ ap digest (sym rest.1.1)))
      | inr later ↦ elim (more rest later) [
        | inl own ↦ inl own
        | inr other ↦ inr (is_later k m ks other.0, other.1)
      ]
    ]

own_or_other_by : (ks : List KeyedRegistry) (key : Text) (h : Registry) (m : KeyedRegistry) → HaveDistinctDigests ks → ((l : KeyedRegistry) × (Contains ks l × (l.key ≡ key)))
    → Contains (with_registry ks key h) m → IsOwnOrOther ks key h m
own_or_other_by [] key h m distinct keyed c = absurd (nothing_in m c)
own_or_other_by (k ∷ ks) key h m distinct keyed c =
    own_or_other_at k m ks key h (same_text key k.key) refl distinct keyed (λ rest. own_or_other_by ks key h m (later_digests k ks distinct) rest) c

pub own_or_other : (ks : List KeyedRegistry) (key : Text) (g h : Registry) (m : KeyedRegistry) → HaveDistinctDigests ks → registry_of ks key ≡ Some g
    → Contains (with_registry ks key h) m → IsOwnOrOther ks key h m
own_or_other ks key g h m distinct is c = let f = found ks key g is in own_or_other_by ks key h m distinct (f.keyed, (f.among, f.has_key)) c

pub other_stays : (ks : List KeyedRegistry) (key : Text) (h : Registry) (m : KeyedRegistry) → m.key ≢ key → Contains ks m → Contains (with_registry ks key h) m
other_stays [] key h m other c = c
other_stays (k ∷ ks) key h m other c = by (same_text key k.key) refl (other_stays ks key h m other)
  where
    by : (b : Bool) → same_text key k.key ≡ b → (Contains ks m → Contains (with_registry ks key h) m)
        → Contains (cond b (record k { registry = h } ∷ ks) (k ∷ with_registry ks key h)) m
    by true e more = elim (first_or_later k m ks c) [
      | inl same ↦ absurd (other (ap (λ (l : KeyedRegistry). l.key) (sym same) ∙ sym (same_text_is key k.key e)))
      | inr later ↦ is_later (record k { registry = h }) m ks later
    ]
    by false e more = elim (first_or_later k m ks c) [
      | inl same ↦ subst (Contains (k ∷ with_registry ks key h)) same (is_first k (with_registry ks key h))
      | inr later ↦ is_later k m (with_registry ks key h) (more later)
    ]

-- the key's own has it
pub own_after : (ks : List KeyedRegistry) (key : Text) (g h : Registry) → registry_of ks key ≡ Some g → registry_of (with_registry ks key h) key ≡ Some h
own_after [] key g h is = absurd (none_some is)
own_after (k ∷ ks) key g h is = by (same_text key k.key) refl (own_after ks key g h) is
  where
    by : (b : Bool) → same_text key k.key ≡ b → (registry_of ks key ≡ Some g → registry_of (with_registry ks key h) key ≡ Some h)
        → cond b (Some k.registry) (registry_of ks key) ≡ Some g
        → registry_of (cond b (record k { registry = h } ∷ ks) (k ∷ with_registry ks key h)) key ≡ Some h
    by true e more is = rw e refl
    by false e more is = rw e (more is)

-- the same registry again
pub with_own : (ks : List KeyedRegistry) (key : Text) (g : Registry) → registry_of ks key ≡ Some g → with_registry ks key g ≡ ks
with_own [] key g is = refl
with_own (k ∷ ks) key g is = by (same_text key k.key) (with_own ks key g) is
  where
    by : (b : Bool) → (registry_of ks key ≡ Some g → with_registry ks key g ≡ ks) → cond b (Some k.registry) (registry_of ks key) ≡ Some g
        → cond b (record k { registry = g } ∷ ks) (k ∷ with_registry ks key g) ≡ k ∷ ks
    by true more is = ap (λ h. record k { registry = h } ∷ ks) (sym (some_same is))
    by false more is = ap (λ l. k ∷ l) (more is)

-- the last of two
pub with_last : (ks : List KeyedRegistry) (key : Text) (g h : Registry) → with_registry (with_registry ks key g) key h ≡ with_registry ks key h
with_last [] key g h = refl
with_last (k ∷ ks) key g h = by (same_text key k.key) refl (with_last ks key g h)
  where
    by : (b : Bool) → same_text key k.key ≡ b → with_registry (with_registry ks key g) key h ≡ with_registry ks key h
        → with_registry (cond b (record k { registry = g } ∷ ks) (k ∷ with_registry ks key g)) key h ≡ cond b (record k { registry = h } ∷ ks) (k ∷ with_registry ks key h)
    by true e more = rw e refl
    by false e more = rw e (ap (λ l. k ∷ l) more)

-- ---- documents that ascend
pub all_ascend_with : (ks : List KeyedRegistry) (key : Text) (g h : Registry) → HaveDistinctDigests ks → registry_of ks key ≡ Some g → AllAscend ks
    → documents.Ascend h.documents → AllAscend (with_registry ks key h)
all_ascend_with ks key g h distinct is up new m c = elim (own_or_other ks key g h m distinct is c) [
  | inl own ↦ subst (λ (x : Registry). documents.Ascend x.documents) (sym own.1) new
  | inr other ↦ up m other.0
]

-- ---- without documents
pub emptied_with : (ks : List KeyedRegistry) (key : Text) (g h : Registry) → registry_of ks key ≡ Some g → record h { documents = [] } ≡ record g { documents = [] }
    → emptied (with_registry ks key h) ≡ emptied ks
emptied_with [] key g h is same = refl
emptied_with (k ∷ ks) key g h is same = by (same_text key k.key) (λ rest. emptied_with ks key g h rest same) is
  where
    by : (b : Bool) → (registry_of ks key ≡ Some g → emptied (with_registry ks key h) ≡ emptied ks) → cond b (Some k.registry) (registry_of ks key) ≡ Some g
        → emptied (cond b (record k { registry = h } ∷ ks) (k ∷ with_registry ks key h)) ≡ without_documents k ∷ emptied ks
    by true more is =
        ap (λ (x : Registry). record k { registry = x } ∷ emptied ks) same
        ∙ ap (λ (x : Registry). record k { registry = record x { documents = [] } } ∷ emptied ks) (sym (some_same is))
    by false more is = ap (λ l. without_documents k ∷ l) (more is)

pub emptied_digests : (ks : List KeyedRegistry) → map (λ k. digest k.key) (emptied ks) ≡ map (λ k. digest k.key) ks
emptied_digests [] = refl
emptied_digests (k ∷ ks) = ap (λ l. digest k.key ∷ l) (emptied_digests ks)

pub distinct_by_emptied : (ks ls : List KeyedRegistry) → emptied ls ≡ emptied ks → HaveDistinctDigests ks → HaveDistinctDigests ls
distinct_by_emptied ks ls same distinct =
    ap (has_repeat same_text) (sym (emptied_digests ls) ∙ ap (map (λ (k : KeyedRegistry). digest k.key)) same ∙ emptied_digests ks) ∙ distinct
