-- The position of a tenant's registry, and what is answered there.
use Rattle.std.proofs.Common.{◌≡◌, ℕ, zero, suc, ◌+◌, ◌<◌, List, [], ◌∷◌, length, Bool, true, false, cond, Option, Some, None, is_some, refl, sym, ap, ◌∙◌, inl, inr, arith, set, get_or, subst, map, string_bytes}
use Rattle.std.specs.Prelude.{MatchOption}
use Rattle.definitions.specs.Faults.{unknown_tenant}
use Rattle.definitions.specs.Patterns.{regular_search}
use Rattle.definitions.specs.Registries.{Registry, Request, Reply, refused}
use Rattle.definitions.specs.Runs.{IsAnswer}
use Rattle.definitions.specs.Services as meaning
use Rattle.definitions.specs.Services.{registry_of, with_registry, call_at, IsCallAnswer}
use Rattle.definitions.specs.Values.{Text, same_text}
use Rattle.definition_laws.specs.Laws.{IsRefused}
use Rattle.lemmas.proofs.SomeValues.{some_same}
use Rattle.definition_laws.proofs.Registries.{step_keeps}
use Rattle.tenant_hub.specs.KeyedRegistries.{keyed_view, position_of}
use Rattle.tenant_documents.specs.Registries.{registry_view}
use Rattle.tenant_hub.specs.declared.keyed_registry.KeyedRegistry.{KeyedRegistry}

abbrev keyed : Text → Registry → meaning.KeyedRegistry
keyed key g = record { key = key; registry = g }

-- ---- the key at its first position
pub record IsAt (key : Text) (ks : List KeyedRegistry) (p : ℕ) : Type 0 where
  pub within : p < length ks
  pub own : (d : KeyedRegistry) → registry_of (map keyed_view ks) key ≡ Some (registry_view (get_or ks p d).registry)
  pub replaced : (d k : KeyedRegistry) → string_bytes k.key ≡ string_bytes (get_or ks p d).key
      → map keyed_view (set ks p k) ≡ with_registry (map keyed_view ks) key (registry_view k.registry)

module _ (key : Text) (k : KeyedRegistry) (ks : List KeyedRegistry) where
  at_first : same_text key (string_bytes k.key) ≡ true → IsAt key (k ∷ ks) 0
  at_first e = record {
    within = omega arith;
    own = λ d. rw e refl;
    replaced = λ d l same. rw e (ap (λ t. keyed t (registry_view l.registry) ∷ map keyed_view ks) same);
  }

  at_later : (p : ℕ) → same_text key (string_bytes k.key) ≡ false → IsAt key ks p → IsAt key (k ∷ ks) (suc p)
  at_later p e a = record {
    within = omega (arith, a.within);
    own = λ d. rw e (a.own d);
    replaced = λ d l same. rw e (ap (λ ls. keyed_view k ∷ ls) (a.replaced d l same));
  }

abbrev Found : Text → ℕ → List KeyedRegistry → Option ℕ → Type 0
Found key i ks o = MatchOption o (registry_of (map keyed_view ks) key ≡ None) (λ p. (q : ℕ) × (p ≡ i + q) × IsAt key ks q)

later : (key : Text) (i : ℕ) (k : KeyedRegistry) (ks : List KeyedRegistry) (o : Option ℕ) → same_text key (string_bytes k.key) ≡ false → Found key (i + 1) ks o → Found key i (k ∷ ks) o
later key i k ks None e f = rw e f
later key i k ks (Some p) e f = (suc f.0, omega (arith, f.1), at_later key k ks f.0 e f.2)

with_test : (key : Text) (i : ℕ) (k : KeyedRegistry) (ks : List KeyedRegistry) (b : Bool) → same_text key (string_bytes k.key) ≡ b
    → Found key (i + 1) ks (position_of key (i + 1) ks) → Found key i (k ∷ ks) (cond b (Some i) (position_of key (i + 1) ks))
with_test key i k ks true e f = (0, omega arith, at_first key k ks e)
with_test key i k ks false e f = later key i k ks (position_of key (i + 1) ks) e f

found : (key : Text) (i : ℕ) (ks : List KeyedRegistry) → Found key i ks (position_of key i ks)
found key i [] = refl
found key i (k ∷ ks) = with_test key i k ks (same_text key (string_bytes k.key)) refl (found key (i + 1) ks)

pub found_some : (key : Text) (ks : List KeyedRegistry) (p : ℕ) → Some p ≡ position_of key 0 ks → IsAt key ks p
found_some key ks p e =
    let f : Found key 0 ks (Some p) = subst (Found key 0 ks) (sym e) (found key 0 ks) in
    let same : f.0 ≡ p = omega (arith, f.1) in
    subst (IsAt key ks) same f.2

pub found_none : (key : Text) (ks : List KeyedRegistry) → None ≡ position_of key 0 ks → registry_of (map keyed_view ks) key ≡ None
found_none key ks e = subst (Found key 0 ks) (sym e) (found key 0 ks)

-- ---- the registry that is there already
with_own_at : (k : meaning.KeyedRegistry) (ks : List meaning.KeyedRegistry) (key : Text) (g : Registry) (b : Bool) → same_text key k.key ≡ b
    → (registry_of ks key ≡ Some g → with_registry ks key g ≡ ks) → registry_of (k ∷ ks) key ≡ Some g → with_registry (k ∷ ks) key g ≡ k ∷ ks
with_own_at k ks key g true e more is =
    let own : k.registry ≡ g = some_same (sym (ap (λ b. cond b (Some k.registry) (registry_of ks key)) e) ∙ is) in
    rw e (ap (λ h. keyed k.key h ∷ ks) (sym own))
with_own_at k ks key g false e more is =
    rw e (ap (λ ls. k ∷ ls) (more (sym (ap (λ b. cond b (Some k.registry) (registry_of ks key)) e) ∙ is)))

with_own : (ks : List meaning.KeyedRegistry) (key : Text) (g : Registry) → registry_of ks key ≡ Some g → with_registry ks key g ≡ ks
with_own [] key g is = refl
with_own (k ∷ ks) key g is = with_own_at k ks key g (same_text key k.key) refl (with_own ks key g) is

-- ---- one call
is_answer : (ks ls : List meaning.KeyedRegistry) (key : Text) (q : Request) (r : Reply) (g h : Registry) → registry_of ks key ≡ Some g
    → ls ≡ with_registry ks key h → IsAnswer regular_search g q r h → IsCallAnswer regular_search ks (key, q) r ls
is_answer ks ls key q r g h is with_it (inl s) =
    let here = ap (call_at regular_search ks (key, q)) is in
    inl (s.0 ∙ sym (ap (λ x. x.0) here), with_it ∙ ap (with_registry ks key) s.1 ∙ sym (ap (λ x. x.1) here))
is_answer ks ls key q r g h is with_it (inr s) =
    inr (ap is_some is, s.0, with_it ∙ ap (with_registry ks key) s.1 ∙ with_own ks key g is)

pub answered_at : (key : Text) (q : Request) (r : Reply) (ks : List KeyedRegistry) (p : ℕ) (old new : KeyedRegistry) → IsAt key ks p → old ≡ get_or ks p old
    → string_bytes new.key ≡ string_bytes old.key → IsAnswer regular_search (registry_view old.registry) q r (registry_view new.registry)
    → IsCallAnswer regular_search (map keyed_view ks) (key, q) r (map keyed_view (set ks p new))
answered_at key q r ks p old new a e same answer =
    is_answer (map keyed_view ks) (map keyed_view (set ks p new)) key q r (registry_view old.registry) (registry_view new.registry)
    (a.own old ∙ ap (λ k. Some (registry_view k.registry)) (sym e))
    (a.replaced old new (same ∙ ap (λ k. string_bytes k.key) e))
    answer

pub unknown_refused : (key : Text) (q : Request) (r : Reply) (ks : List KeyedRegistry) → None ≡ position_of key 0 ks → r ≡ refused unknown_tenant
    → IsCallAnswer regular_search (map keyed_view ks) (key, q) r (map keyed_view ks)
unknown_refused key q r ks e is =
    let here = ap (call_at regular_search (map keyed_view ks) (key, q)) (found_none key ks e) in
    inl (is ∙ sym (ap (λ x. x.0) here), sym (ap (λ x. x.1) here))

-- ---- a refusal
module _ (ks ls : List meaning.KeyedRegistry) (key : Text) (q : Request) (r : Reply) where
  stays_by : (o : Option Registry) → registry_of ks key ≡ o → r ≡ (call_at regular_search ks (key, q) o).0 → ls ≡ (call_at regular_search ks (key, q) o).1
      → IsRefused r → ls ≡ ks
  stays_by None e said now is = now
  stays_by (Some g) e said now is =
      now ∙ ap (with_registry ks key) (step_keeps regular_search g q (subst IsRefused said is)) ∙ with_own ks key g e

  pub refused_stay : IsCallAnswer regular_search ks (key, q) r ls → IsRefused r → ls ≡ ks
  refused_stay (inl s) is = stays_by (registry_of ks key) refl s.0 s.1 is
  refused_stay (inr s) is = s.2

-- asked once more, where nothing that is seen was changed in between
pub answered_again : (ks ms ns ls : List meaning.KeyedRegistry) (key : Text) (q : Request) (first r : Reply) → IsRefused first
    → IsCallAnswer regular_search ks (key, q) first ms → ns ≡ ms → IsCallAnswer regular_search ns (key, q) r ls → IsCallAnswer regular_search ks (key, q) r ls
answered_again ks ms ns ls key q first r is before same after =
    subst (λ xs. IsCallAnswer regular_search xs (key, q) r ls) (same ∙ refused_stay ks ms key q first before is) after

-- ---- what is seen of the registries, where one is replaced by one that is seen as it
pub same_views : (ks : List KeyedRegistry) (p : ℕ) (old k : KeyedRegistry) → keyed_view k ≡ keyed_view (get_or ks p old) → map keyed_view (set ks p k) ≡ map keyed_view ks
same_views [] p old k e = refl
same_views (l ∷ ks) zero old k e = ap (λ v. v ∷ map keyed_view ks) e
same_views (l ∷ ks) (suc p) old k e = ap (λ vs. keyed_view l ∷ vs) (same_views ks p old k e)
