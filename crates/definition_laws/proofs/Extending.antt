-- Tables whose schemas correspond, each to one that has all that it has below it, are alike.
use Rattle.std.proofs.Common.{◌≡◌, ◌&&◌, suc, ◌||◌, ◌==◌, List, [], ◌∷◌, Bool, true, false, cond, Option, Some, None, Result, Ok, Err, is_some, length, option_map, option_and_then, unwrap_or, codes, refl, sym, ap, ap₂, subst, ◌∙◌, inl, inr}
use Rattle.std.proofs.lemmas.Bool.{and_parts, or_right}
use Rattle.std.specs.List.{flat_map, find}
use Rattle.definitions.specs.Values.{Text, Value, nesting, same_text, as_string, text_at, members}
use Rattle.definitions.specs.Lists.{has_repeat}
use Rattle.definitions.specs.Alike.{IsAlikeSchema, IsAlike, AreAlike}
use Rattle.definitions.specs.Faults.{Fault}
use Rattle.definitions.specs.Fragments.{Fragment, no_fragment, tokens, plain_name}
use Rattle.definitions.specs.Pointers.{Pointer, same_pointer}
use Rattle.definitions.specs.Keywords.{keywords, shape_in}
use Rattle.definitions.specs.Uris.{without_fragment}
use Rattle.definitions.specs.Schemas.{Schema, Document, references, schemas_from, schemas_of, table_of, is_root}
use Rattle.definitions.specs.Scanning.{anchors_of, anchor_names, same_anchor}
use Rattle.definitions.specs.Documents.{resources_of, resource_uris_of}
use Rattle.definitions.specs.Reach.{missing_references}
use Rattle.definitions.specs.Targets.{resource_root, has_text, is_anchor, is_dynamic_anchor, schema_with_anchor, schema_with_dynamic_anchor, schema_at_pointer, target_in, fragment_of}
use Rattle.lemmas.proofs.Texts.{same_text_itself, same_text_is}
use Rattle.definition_laws.specs.Identities.{IsDefinite}
use Rattle.definition_laws.proofs.Occurrences.{IsIn, in_from_contains, contains_from_in, in_flat_map, into_map, found_somewhere, found_in, found_passes}
use Rattle.definition_laws.proofs.Places.{IsStep, places, IsBelow, here, further}
use Rattle.definition_laws.proofs.Roots.{same_pointer_is, within_from, pointed_from, roots_once, root_pointer}
use Rattle.definition_laws.proofs.Unbundled.{is_changed}
use Rattle.definition_laws.proofs.Targets.{alike_resource, alike_pointer, equal_alike, below_alike, alike_get}
use Rattle.definition_laws.proofs.ReachedTables.{one_has, own_uri, has_target}
use Rattle.definition_laws.proofs.Resources.{table_uris}

-- ---- an alike schema with all that stands below the first
pub record Extends (s t : Schema) : Type 0 where
  pub alike : IsAlikeSchema s t
  pub steps : (u : Schema) (way : Pointer) → IsStep keywords s u way → IsStep keywords t u way

pub extends_itself : (s : Schema) → Extends s s
extends_itself s = record { alike = equal_alike s s refl; steps = λ u way h. h }

-- by the places in its members
pub extends_by : (s t : Schema) → IsAlikeSchema s t
    → ((n : Text) (x : Value) (rest : Pointer) (part : Value) → IsIn (n, x) (members s.value) → IsIn (rest, part) (places x (shape_in keywords n))
    → (y : Value) × IsIn (n, y) (members t.value) × IsIn (rest, part) (places y (shape_in keywords n)))
    → Extends s t
extends_by s t h keeps = record {
  alike = h;
  steps = λ u way step.
      let kept = keeps step.name step.value step.rest step.part step.inside step.place in
      record {
        name = step.name;
        value = kept.0;
        rest = step.rest;
        part = step.part;
        inside = kept.1;
        place = kept.2;
        way_is = step.way_is;
        is = step.is ∙ sym (below_alike s t way step.part h);
      };
}

pub extends_below : (r t s : Schema) (way : Pointer) → Extends r t → IsBelow keywords r s way → (u : Schema) × IsBelow keywords t u way × Extends s u
extends_below r t s way h (here e f) = (t, here refl f, subst (λ x. Extends x t) e h)
extends_below r t s way h (further {t = a} {way = first} {rest = rest} step more w) = (s, further (h.steps a first step) more w, extends_itself s)

-- ---- what both find
abbrev AreExtended : Option Schema → Option Schema → Type 0
AreExtended None None = Unit {0}
AreExtended (Some s) (Some t) = Extends s t
AreExtended _ _ = ⊥

extended_alike : (o p : Option Schema) → AreExtended o p → AreAlike o p
extended_alike None None h = tt
extended_alike None (Some t) h = h
extended_alike (Some s) None h = h
extended_alike (Some s) (Some t) h = h.alike

pub record Correspond (table other : List Schema) : Type 0 where
  pub forth : (s : Schema) → IsIn s table → (t : Schema) × IsIn t other × Extends s t
  pub back : (t : Schema) → IsIn t other → (s : Schema) × IsIn s table × Extends s t

abbrev IsLikeTest : (Schema → Bool) → Type 0
IsLikeTest p = (s t : Schema) → IsAlikeSchema s t → p t ≡ p s

found_both : (table other : List Schema) → Correspond table other → (p : Schema → Bool) → IsLikeTest p
    → ((s r : Schema) → IsIn s table → IsIn r table → p s ≡ true → p r ≡ true → s ≡ r) → AreExtended (find p table) (find p other)
found_both table other c p like once = by (find p table) refl (find p other) refl
  where
    by : (o : Option Schema) → find p table ≡ o → (q : Option Schema) → find p other ≡ q → AreExtended o q
    by None e None f = tt
    by (Some s) e None f =
        let t = c.forth s (found_in p table s e) in
        let some : is_some (find p other) ≡ true = found_somewhere p other t.0 t.1 (like s t.0 (t.2).alike ∙ found_passes p table s e) in
        absurd (let no : false ≡ true = sym (ap is_some f) ∙ some in cc)
    by None e (Some t) f =
        let s = c.back t (found_in p other t f) in
        let some : is_some (find p table) ≡ true = found_somewhere p table s.0 s.1 (sym (like s.0 t (s.2).alike) ∙ found_passes p other t f) in
        absurd (let no : false ≡ true = sym (ap is_some e) ∙ some in cc)
    by (Some s) e (Some t) f =
        let r = c.back t (found_in p other t f) in
        let same : r.0 ≡ s = once r.0 s r.1 (found_in p table s e) (sym (like r.0 t (r.2).alike) ∙ found_passes p other t f) (found_passes p table s e) in
        subst (λ x. Extends x t) same r.2

-- ---- tests of roots and anchors
text_like : (keyword name : Text) → is_changed keyword ≡ false → IsLikeTest (has_text keyword name)
text_like keyword name k s t h = ap (λ o. unwrap_or (option_map (same_text name) (option_and_then as_string o)) false) (alike_get keyword s t k h)

dynamic_like : (name : Text) → IsLikeTest (is_dynamic_anchor name)
dynamic_like name s t h = text_like (codes "$dynamicAnchor") name refl s t h

anchor_like : (name : Text) → IsLikeTest (is_anchor name)
anchor_like name s t h = ap₂ (λ a b. a || b) (text_like (codes "$anchor") name refl s t h) (dynamic_like name s t h)

root_like : IsLikeTest is_root
root_like s t h = ap (λ p. length p == 0) (alike_pointer s t h)

of_uri_like : (uri : Text) (p : Schema → Bool) → IsLikeTest p → IsLikeTest (λ s. same_text uri s.resource && p s)
of_uri_like uri p like s t h = ap₂ (λ r b. same_text uri r && b) (alike_resource s t h) (like s t h)

-- ---- an anchor's name stands once in a resource
anchor_named : (n : Text) (a b : Option Text) → (unwrap_or (option_map (same_text n) a) false || unwrap_or (option_map (same_text n) b) false) ≡ true → IsIn n (anchor_names a b)
anchor_named n None None h = absurd (cc)
anchor_named n None (Some y) h = inl (sym (same_text_is n y h))
anchor_named n (Some x) None h = inl (sym (same_text_is n x (left (same_text n x) h)))
  where
    left : (b : Bool) → (b || false) ≡ true → b ≡ true
    left true e = refl
    left false e = e
anchor_named n (Some x) (Some y) h = by (same_text x y) refl (same_text n x) refl h
  where
    by : (same : Bool) → same_text x y ≡ same → (first : Bool) → same_text n x ≡ first → (first || same_text n y) ≡ true → IsIn n (cond same (x ∷ []) (x ∷ y ∷ []))
    by true e true f k = inl (sym (same_text_is n x f))
    by true e false f k = inl (same_text_is x y e ∙ sym (same_text_is n y k))
    by false e true f k = inl (sym (same_text_is n x f))
    by false e false f k = inr (inl (sym (same_text_is n y k)))

same_anchor_itself : (x : Text × Text) → same_anchor x x ≡ true
same_anchor_itself x = rw (same_text_itself x.0) (same_text_itself x.1)

abbrev HasOwnAnchors : Document → Type 0
HasOwnAnchors d = has_repeat same_anchor (flat_map anchors_of (schemas_of d.base d.value)) ≡ false

one_document_of : (ds : List Document) → has_repeat same_text (resource_uris_of ds) ≡ false → (d e : Document) (s r : Schema) → IsIn d ds → IsIn e ds
    → IsIn s (schemas_of d.base d.value) → IsIn r (schemas_of e.base e.value) → s.resource ≡ r.resource → d ≡ e
one_document_of ds distinct d e s r i j k l same =
    one_has same_text same_text_itself resources_of ds d e r.resource distinct i j (subst (λ u. IsIn u (resources_of d)) same (own_uri d s k)) (own_uri e r l)

anchors_once : (ds : List Document) → has_repeat same_text (resource_uris_of ds) ≡ false → ((d : Document) → IsIn d ds → HasOwnAnchors d) → (uri name : Text) (s r : Schema)
    → IsIn s (table_of ds) → IsIn r (table_of ds) → (same_text uri s.resource && is_anchor name s) ≡ true → (same_text uri r.resource && is_anchor name r) ≡ true → s ≡ r
anchors_once ds distinct own uri name s r i j h k =
    let d = in_flat_map (λ c. schemas_of c.base c.value) ds s i in
    let e = in_flat_map (λ c. schemas_of c.base c.value) ds r j in
    let a = and_parts (same_text uri s.resource) (is_anchor name s) h in
    let b = and_parts (same_text uri r.resource) (is_anchor name r) k in
    let same : s.resource ≡ r.resource = sym (same_text_is uri s.resource a.0) ∙ same_text_is uri r.resource b.0 in
    let one : d.0 ≡ e.0 = one_document_of ds distinct d.0 e.0 s r d.1 e.1 d.2 e.2 same in
    let inside : IsIn r (schemas_of (d.0).base (d.0).value) = subst (λ c. IsIn r (schemas_of c.base c.value)) (sym one) e.2 in
    one_has same_anchor same_anchor_itself anchors_of (schemas_of (d.0).base (d.0).value) s r (r.resource, name) (own d.0 d.1) d.2 inside
    (subst (λ u. IsIn (u, name) (anchors_of s)) same (named s a.1)) (named r b.1)
  where
    named : (q : Schema) → is_anchor name q ≡ true → IsIn (q.resource, name) (anchors_of q)
    named q l = into_map (λ n. (q.resource, n)) (anchor_names (text_at (codes "$anchor") q.value) (text_at (codes "$dynamicAnchor") q.value)) name
        (anchor_named name (text_at (codes "$anchor") q.value) (text_at (codes "$dynamicAnchor") q.value) l)

dynamic_is_anchor : (name : Text) (s : Schema) → is_dynamic_anchor name s ≡ true → is_anchor name s ≡ true
dynamic_is_anchor name s h = or_right (has_text (codes "$anchor") name s) _ h

-- ---- what a pointer leads to
pointed_below : (way : Pointer) (r s : Schema) → schema_at_pointer way r ≡ Some s → IsBelow keywords r s way
pointed_below way r s e = by (find (λ t. same_pointer way t.0) (schemas_from r)) refl e
  where
    by : (o : Option (Pointer × Schema)) → find (λ t. same_pointer way t.0) (schemas_from r) ≡ o → option_map (λ t. t.1) o ≡ Some s → IsBelow keywords r s way
    by None f g = absurd (cc)
    by (Some x) f g =
        let q = within_from keywords (suc (nesting r.value)) [] r x (found_in (λ t. same_pointer way t.0) (schemas_from r) x f) in
        let ways : q.0 ≡ way = sym q.1 ∙ sym (same_pointer_is way x.0 (found_passes (λ t. same_pointer way t.0) (schemas_from r) x f)) in
        let same : x.1 ≡ s = cc in
        subst (λ y. y) (ap₂ (λ t w. IsBelow keywords r t w) same ways) q.2

pointed_both : (way : Pointer) (r t : Schema) → Extends r t → IsDefinite t.value → is_some (schema_at_pointer way r) ≡ true → AreAlike (schema_at_pointer way r) (schema_at_pointer way t)
pointed_both way r t h d found = by (schema_at_pointer way r) refl found
  where
    by : (o : Option Schema) → schema_at_pointer way r ≡ o → is_some o ≡ true → AreAlike o (schema_at_pointer way t)
    by None e f = absurd (cc)
    by (Some s) e f =
        let u = extends_below r t s way h (pointed_below way r s e) in
        subst (AreAlike (Some s)) (sym (pointed_from t u.0 way d u.1)) (u.2).alike

-- ---- tables that correspond
pub record IsPrepared (ds : List Document) (other : List Schema) : Type 0 where
  pub distinct : has_repeat same_text (resource_uris_of ds) ≡ false
  pub anchors : (d : Document) → IsIn d ds → HasOwnAnchors d
  pub linked : missing_references ds ≡ []
  pub correspond : Correspond (table_of ds) other
  pub definite : (t : Schema) → IsIn t other → IsDefinite t.value

roots_both : (ds : List Document) (other : List Schema) → IsPrepared ds other → (uri : Text) → AreExtended (resource_root (table_of ds) uri) (resource_root other uri)
roots_both ds other h uri =
    found_both (table_of ds) other h.correspond (λ s. same_text uri s.resource && is_root s) (of_uri_like uri is_root root_like)
    (λ s r i j a b.
    let p = and_parts (same_text uri s.resource) (is_root s) a in
    let q = and_parts (same_text uri r.resource) (is_root r) b in
    roots_once (table_of ds) s r (ap (has_repeat same_text) (table_uris ds) ∙ h.distinct) i j (root_pointer s p.1) (root_pointer r q.1)
    (sym (same_text_is uri s.resource p.0) ∙ same_text_is uri r.resource q.0))

pub roots_alike : (ds : List Document) (other : List Schema) → IsPrepared ds other → (uri : Text) → AreAlike (resource_root (table_of ds) uri) (resource_root other uri)
roots_alike ds other h uri = extended_alike (resource_root (table_of ds) uri) (resource_root other uri) (roots_both ds other h uri)

pointed_roots : (way : Pointer) (other : List Schema) → ((t : Schema) → IsIn t other → IsDefinite t.value) → (o p : Option Schema) → AreExtended o p → ((t : Schema) → p ≡ Some t → IsIn t other)
    → is_some (option_and_then (schema_at_pointer way) o) ≡ true → AreAlike (option_and_then (schema_at_pointer way) o) (option_and_then (schema_at_pointer way) p)
pointed_roots way other definite None None h held f = tt
pointed_roots way other definite None (Some t) h held f = absurd h
pointed_roots way other definite (Some r) None h held f = absurd h
pointed_roots way other definite (Some r) (Some t) h held f = pointed_both way r t h (definite t (held t refl)) f

target_both : (ds : List Document) (other : List Schema) → IsPrepared ds other → (uri : Text) (f : Result Fragment Fault) → is_some (target_in (table_of ds) uri f) ≡ true
    → AreAlike (target_in (table_of ds) uri f) (target_in other uri f)
target_both ds other h uri (Err e) k = tt
target_both ds other h uri (Ok no_fragment) k = roots_alike ds other h uri
target_both ds other h uri (Ok (tokens way)) k =
    pointed_roots way other h.definite (resource_root (table_of ds) uri) (resource_root other uri) (roots_both ds other h uri) (λ t e. found_in _ other t e) k
target_both ds other h uri (Ok (plain_name n)) k =
    extended_alike (schema_with_anchor (table_of ds) uri n) (schema_with_anchor other uri n)
    (found_both (table_of ds) other h.correspond (λ s. same_text uri s.resource && is_anchor n s) (of_uri_like uri (is_anchor n) (anchor_like n)) (anchors_once ds h.distinct h.anchors uri n))

pub prepared_alike : (ds : List Document) (other : List Schema) → IsPrepared ds other → IsAlike (table_of ds) other
prepared_alike ds other h = record {
  schemas = λ s i. let t = h.correspond.forth s (in_from_contains (table_of ds) s i) in (t.0, (contains_from_in other t.0 t.1, (t.2).alike));
  targets = λ s r i j.
      let found = has_target ds h.linked s r (in_from_contains (table_of ds) s i) (in_from_contains (references s) r j) in
      (found, target_both ds other h (without_fragment r) (fragment_of r) found);
  dynamic_anchors = λ s name i.
      extended_alike (schema_with_dynamic_anchor (table_of ds) s.resource name) (schema_with_dynamic_anchor other s.resource name)
      (found_both (table_of ds) other h.correspond (λ t. same_text s.resource t.resource && is_dynamic_anchor name t) (of_uri_like s.resource (is_dynamic_anchor name) (dynamic_like name))
      (λ q r j k a b. anchors_once ds h.distinct h.anchors s.resource name q r j k (any_anchor name s.resource q a) (any_anchor name s.resource r b)));
}
  where
    any_anchor : (name uri : Text) (q : Schema) → (same_text uri q.resource && is_dynamic_anchor name q) ≡ true → (same_text uri q.resource && is_anchor name q) ≡ true
    any_anchor name uri q a =
        let p = and_parts (same_text uri q.resource) (is_dynamic_anchor name q) a in
        ap₂ (λ x y. x && y) p.0 (dynamic_is_anchor name q p.1)
