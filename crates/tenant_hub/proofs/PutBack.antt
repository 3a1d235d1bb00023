-- A document that is put back, into a registry and by a key.
use Rattle.std.proofs.Common.{◌≡◌, ℕ, List, Bool, true, false, cond, Option, Some, None, Result, Ok, Err, IsTrue, refl, sym, ap, ap₂, ◌∙◌, subst, inl, inr, map, string_bytes, set, get_or}
use Rattle.std.specs.Prelude.{MatchOption, option_and_then}
use Rattle.definitions.specs.Documents.{documents_with}
use Rattle.definitions.specs.Faults.{Fault, no_room, too_large, unknown_tenant}
use Rattle.definitions.specs.Limits.{limits}
use Rattle.definitions.specs.Patterns.{regular_search}
use Rattle.definitions.specs.Registries.{Registry, Reply, refused, stored, for_value, for_base, put_into, put_refusal, decision}
use Rattle.definitions.specs.Resolution.{base_form}
use Rattle.definitions.specs.Schemas.{document_from}
use Rattle.definitions.specs.Searches.{builds}
use Rattle.definitions.specs.Services as meaning
use Rattle.definitions.specs.Services.{registry_of, with_registry}
use Rattle.definitions.specs.Texts.{parsed_value}
use Rattle.definitions.specs.Values.{Text, Value}
use Rattle.definition_laws.specs.Laws.{IsRefused}
use Rattle.definition_laws.specs.Reading.{has_arrays_within}
use Rattle.tenant_documents.specs.Puts.{put_under, IsPutUnder}
use Rattle.tenant_documents.specs.Registries.{registry_view}
use Rattle.tenant_documents.specs.StoredTexts.{stored_texts}
use Rattle.tenant_hub.specs.KeyedRegistries.{keyed_view, position_of}
use Rattle.tenant_hub.specs.PutBack.{within_arrays, restored_value, put_back, IsPutBack, IsRestored, stored_texts_of}
use Rattle.tenant_hub.specs.declared.keyed_registry.KeyedRegistry.{KeyedRegistry}
use Rattle.tenant_hub.proofs.Positions.{IsAt, found_none}

-- ---- its text
short_read : (r : Result Value Fault) (v : Value) → within_arrays r ≡ Ok v → (r ≡ Ok v) × (has_arrays_within limits.body_bytes v ≡ true)
short_read (Ok w) v e = short_when w (has_arrays_within limits.body_bytes w) v refl e
  where
    ok_same : {v w : Value} → ◌≡◌ {A = Result Value Fault} (Ok v) (Ok w) → v ≡ w
    ok_same e = cc

    short_when : (w : Value) (b : Bool) (v : Value) → has_arrays_within limits.body_bytes w ≡ b → cond {A = Result Value Fault} b (Ok w) (Err too_large) ≡ Ok v
        → (◌≡◌ {A = Result Value Fault} (Ok w) (Ok v)) × (has_arrays_within limits.body_bytes v ≡ true)
    short_when w true v short e = (e, subst (λ x. has_arrays_within limits.body_bytes x ≡ true) (ok_same e) short)
    short_when w false v short e = cc
short_read (Err f) v e = cc

pub was_read : (text : Text) (v : Value) → restored_value text ≡ Ok v → (parsed_value text ≡ Ok v) × (has_arrays_within limits.body_bytes v ≡ true)
was_read text v e = short_read (parsed_value text) v e

-- ---- what is put into the registry
back : (g : Registry) (base text : Text) (r : Result Value Fault) → restored_value text ≡ r
    → put_back g base text ≡ for_value g r (λ v. for_base g (base_form base) (λ b. put_into regular_search g (document_from b v)))
back g base text r e = ap (λ x. for_value g x (λ v. for_base g (base_form base) (λ b. put_into regular_search g (document_from b v)))) e

pub not_read : (g : Registry) (base text : Text) (f : Fault) → restored_value text ≡ Err f → IsPutBack g base text (refused f) g
not_read g base text f e = let is = back g base text (Err f) e in inl (ap (λ p. p.0) (sym is), ap (λ p. p.1) (sym is))

pub no_room_back : (g : Registry) (base text : Text) → IsPutBack g base text (refused no_room) g
no_room_back g base text = inr (inl refl, refl)

pub put_with : (g h : Registry) (base text : Text) (v : Value) (r : Reply) → restored_value text ≡ Ok v → IsPutUnder g (base_form base) v r h → IsPutBack g base text r h
put_with g h base text v r e (inl s) = let is = back g base text (Ok v) e in inl (s.0 ∙ ap (λ p. p.0) (sym is), s.1 ∙ ap (λ p. p.1) (sym is))
put_with g h base text v r e (inr (inl room, same)) = inr (inl room, same)
put_with g h base text v r e (inr (inr pattern, same)) =
    inr (inr (pattern.0, subst (λ x. IsTrue (builds regular_search (base_form base) x)) (sym e) pattern.1), same)

-- ---- a refusal changes nothing, so that it may be tried again
decision_keeps : (o : Option Fault) (uri : Text) (there : Bool) (after g : Registry) → IsRefused (decision o (stored uri there) after g).0
    → (decision o (stored uri there) after g).1 ≡ g
decision_keeps None uri there after g is = absurd is
decision_keeps (Some f) uri there after g is = refl

base_keeps : (g : Registry) (form : Result Text Fault) (v : Value) → IsRefused (put_under g form v).0 → (put_under g form v).1 ≡ g
base_keeps g (Ok b) v is =
    let d = document_from b v in
    decision_keeps (put_refusal regular_search g d (documents_with d g.documents)) _ _ (record g { documents = documents_with d g.documents }) g is
base_keeps g (Err f) v is = refl

value_keeps : (g : Registry) (form : Result Text Fault) (r : Result Value Fault) → IsRefused (for_value g r (λ v. put_under g form v)).0
    → (for_value g r (λ v. put_under g form v)).1 ≡ g
value_keeps g form (Ok v) is = base_keeps g form v is
value_keeps g form (Err f) is = refl

stays : (g h : Registry) (base text : Text) (r : Reply) → IsRefused r → IsPutBack g base text r h → h ≡ g
stays g h base text r is (inl s) = s.1 ∙ value_keeps g (base_form base) (restored_value text) (subst IsRefused s.0 is)
stays g h base text r is (inr s) = s.1

pub put_back_again : (g h i : Registry) (base text : Text) (first r : Reply) → IsRefused first → IsPutBack g base text first h → IsPutBack h base text r i
    → IsPutBack g base text r i
put_back_again g h i base text first r is before after = subst (λ x. IsPutBack x base text r i) (stays g h base text first is before) after

-- ---- by a key
restored_as : (ks ls : List meaning.KeyedRegistry) (key base text : Text) (r : Reply) (g h : Registry) → registry_of ks key ≡ Some g
    → ls ≡ with_registry ks key h → IsPutBack g base text r h → IsRestored ks key base text r ls
restored_as ks ls key base text r g h is with_it back =
    subst (λ o. MatchOption o ((r ≡ refused unknown_tenant) × (ls ≡ ks)) (λ i. (j : Registry) × (IsPutBack i base text r j × (ls ≡ with_registry ks key j)))) (sym is)
    (h, (back, with_it))

pub restored_at : (key base text : Text) (r : Reply) (ks : List KeyedRegistry) (p : ℕ) (old new : KeyedRegistry) → IsAt key ks p → old ≡ get_or ks p old
    → string_bytes new.key ≡ string_bytes old.key → IsPutBack (registry_view old.registry) base text r (registry_view new.registry)
    → IsRestored (map keyed_view ks) key base text r (map keyed_view (set ks p new))
restored_at key base text r ks p old new a e same back =
    restored_as (map keyed_view ks) (map keyed_view (set ks p new)) key base text r (registry_view old.registry) (registry_view new.registry)
    (a.own old ∙ ap (λ k. Some (registry_view k.registry)) (sym e))
    (a.replaced old new (same ∙ ap (λ k. string_bytes k.key) e))
    back

pub unknown_restored : (key base text : Text) (r : Reply) (ks : List KeyedRegistry) → None ≡ position_of key 0 ks → r ≡ refused unknown_tenant
    → IsRestored (map keyed_view ks) key base text r (map keyed_view ks)
unknown_restored key base text r ks e is =
    let here = found_none key ks e in
    subst (λ o. MatchOption o ((r ≡ refused unknown_tenant) × (map keyed_view ks ≡ map keyed_view ks))
    (λ i. (j : Registry) × (IsPutBack i base text r j × (map keyed_view ks ≡ with_registry (map keyed_view ks) key j)))) (sym here) (is, refl)

-- ---- what stands there
pub texts_at : (key uri : Text) (ks : List KeyedRegistry) (p : ℕ) (k : KeyedRegistry) → IsAt key ks p → k ≡ get_or ks p k
    → stored_texts_of (map keyed_view ks) key uri ≡ stored_texts (registry_view k.registry) uri
texts_at key uri ks p k a e = ap (option_and_then (λ g. stored_texts g uri)) (a.own k ∙ ap (λ x. Some (registry_view x.registry)) (sym e))

pub none_at : (key uri : Text) (ks : List KeyedRegistry) → None ≡ position_of key 0 ks → stored_texts_of (map keyed_view ks) key uri ≡ None
none_at key uri ks e = ap (option_and_then (λ g. stored_texts g uri)) (found_none key ks e)

-- ---- a document that was stored anew
pub record IsStoredBack (g : Registry) (base text uri : Text) (h : Registry) : Type 0 where
  pub under : Text
  pub value : Value
  pub has_base : base_form base ≡ Ok under
  pub has_value : parsed_value text ≡ Ok value
  pub puts : put_into regular_search g (document_from under value) ≡ (stored uri false, h)

stored_pair : (p : Reply × Registry) (r : Reply) (h : Registry) → r ≡ p.0 → h ≡ p.1 → p ≡ (r, h)
stored_pair p r h e f = ap₂ (λ a b. (a, b)) (sym e) (sym f)

by_base : (g h : Registry) (base text uri : Text) (v : Value) (form : Result Text Fault) → base_form base ≡ form → parsed_value text ≡ Ok v
    → stored uri false ≡ (put_under g form v).0 → h ≡ (put_under g form v).1 → IsStoredBack g base text uri h
by_base g h base text uri v (Ok b) e is r s =
    record { under = b; value = v; has_base = e; has_value = is; puts = stored_pair (put_into regular_search g (document_from b v)) (stored uri false) h r s }
by_base g h base text uri v (Err f) e is r s = cc

by_value : (g h : Registry) (base text uri : Text) (o : Result Value Fault) → restored_value text ≡ o
    → stored uri false ≡ (for_value g o (λ v. put_under g (base_form base) v)).0 → h ≡ (for_value g o (λ v. put_under g (base_form base) v)).1 → IsStoredBack g base text uri h
by_value g h base text uri (Ok v) e r s = by_base g h base text uri v (base_form base) refl (was_read text v e).0 r s
by_value g h base text uri (Err f) e r s = cc

pub stored_back : (g h : Registry) (base text uri : Text) → IsPutBack g base text (stored uri false) h → IsStoredBack g base text uri h
stored_back g h base text uri (inl (r, s)) = by_value g h base text uri (restored_value text) refl r s
stored_back g h base text uri (inr (inl room, s)) = cc
stored_back g h base text uri (inr (inr pattern, s)) = let e = pattern.0 in cc

pub record IsRestoredInto (ks : List meaning.KeyedRegistry) (key base text uri : Text) (ls : List meaning.KeyedRegistry) : Type 0 where
  pub before : Registry
  pub after : Registry
  pub own : registry_of ks key ≡ Some before
  pub back : IsStoredBack before base text uri after
  pub with_it : ls ≡ with_registry ks key after

by_own : (ks ls : List meaning.KeyedRegistry) (key base text uri : Text) (o : Option Registry) → registry_of ks key ≡ o
    → MatchOption o ((stored uri false ≡ refused unknown_tenant) × (ls ≡ ks)) (λ g. (h : Registry) × (IsPutBack g base text (stored uri false) h × (ls ≡ with_registry ks key h)))
    → IsRestoredInto ks key base text uri ls
by_own ks ls key base text uri None e (r, s) = cc
by_own ks ls key base text uri (Some g) e (h, (is, s)) =
    record { before = g; after = h; own = e; back = stored_back g h base text uri is; with_it = s }

pub restored_into : (ks ls : List meaning.KeyedRegistry) (key base text uri : Text) → IsRestored ks key base text (stored uri false) ls → IsRestoredInto ks key base text uri ls
restored_into ks ls key base text uri is = by_own ks ls key base text uri (registry_of ks key) refl is
