-- What is reached without a missing reference is a table alike to the whole one.
use Rattle.std.proofs.Common.{◌≡◌, ◌&&◌, ◌||◌, ◌++◌, ℕ, zero, suc, List, [], ◌∷◌, Bool, true, false, cond, Option, Some, None, Result, Ok, Err, is_some, is_none, length, option_and_then, refl, sym, ap, subst, ◌∙◌, inl, inr}
use Rattle.std.proofs.lemmas.Bool.{and_parts, or_parts, or_right}
use Rattle.std.specs.List.{flat_map, filter, find, list_any}
use Rattle.definitions.specs.Values.{Text, Value, same_text}
use Rattle.definitions.specs.Lists.{has_repeat}
use Rattle.definitions.specs.Answers.{answer}
use Rattle.definitions.specs.Alike.{IsAlike, AreAlike}
use Rattle.definitions.specs.Faults.{Fault}
use Rattle.definitions.specs.Fragments.{Fragment, no_fragment, tokens, plain_name}
use Rattle.definitions.specs.Uris.{without_fragment}
use Rattle.definitions.specs.Schemas.{Schema, Document, references, schemas_of, table_of, is_root}
use Rattle.definitions.specs.Documents.{resources_of, resource_uris_of}
use Rattle.definitions.specs.Targets.{resource_root, schema_with_dynamic_anchor, is_anchor, is_dynamic_anchor, schema_at_pointer, target_in, target, fragment_of}
use Rattle.definitions.specs.Reach.{holds_resource, references_in, refers_to, reach_by_steps, reach, missing_references}
use Rattle.lemmas.proofs.Texts.{same_text_itself, same_text_is}
use Rattle.definition_laws.specs.Likeness.{ReachIsEnough}
use Rattle.definition_laws.proofs.Occurrences.{IsIn, in_from_contains, contains_from_in, in_flat_map, into_flat_map, into_map, from_filter, into_filter, filter_passes, any_of_in, in_right, found_somewhere, found_in, found_passes}
use Rattle.definition_laws.proofs.Roots.{pointer_root, document_roots}
use Rattle.definition_laws.proofs.AlikeTables.{alike_tables_answer_the_same}

-- ---- what a search finds in a part of a list
find_after : {A : Type 0} (p : A → Bool) (xs ys zs : List A) → find p ys ≡ find p zs → find p (xs ++ ys) ≡ find p (xs ++ zs)
find_after p [] ys zs e = e
find_after p (x ∷ xs) ys zs e = ap (cond (p x) (Some x)) (find_after p xs ys zs e)

find_past : {A : Type 0} (p : A → Bool) (xs ys : List A) → ((x : A) → IsIn x xs → p x ≡ false) → find p (xs ++ ys) ≡ find p ys
find_past p [] ys h = refl
find_past p (x ∷ xs) ys h = rw (h x (inl refl)) (find_past p xs ys (λ y i. h y (inr i)))

find_in_part : {A B : Type 0} (f : A → List B) (p : B → Bool) (q : A → Bool) (xs : List A) → ((x : A) → IsIn x xs → q x ≡ false → (y : B) → IsIn y (f x) → p y ≡ false)
    → find p (flat_map f xs) ≡ find p (flat_map f (filter q xs))
find_in_part f p q [] h = refl
find_in_part {A} f p q (x ∷ xs) h = by (q x) refl (find_in_part f p q xs (λ y i. h y (inr i)))
  where
    by : (b : Bool) → q x ≡ b → find p (flat_map f xs) ≡ find p (flat_map f (filter q xs))
        → find p (f x ++ flat_map f xs) ≡ find p (flat_map f (cond b (x ∷ filter q xs) (filter q xs)))
    by true e rest = find_after p (f x) (flat_map f xs) (flat_map f (filter q xs)) rest
    by false e rest = find_past p (f x) (flat_map f xs) (h x (inl refl) e) ∙ rest

-- ---- a URI belongs to one document
repeats_across : {A : Type 0} (alike : A → A → Bool) → ((x : A) → alike x x ≡ true) → (xs ys : List A) (t : A) → IsIn t xs → IsIn t ys → has_repeat alike (xs ++ ys) ≡ true
repeats_across alike itself [] ys t i j = absurd i
repeats_across alike itself (x ∷ xs) ys t (inl e) j =
    let some : list_any (alike x) (xs ++ ys) ≡ true = any_of_in (alike x) (xs ++ ys) t (in_right xs ys t j) (subst (λ u. alike x u ≡ true) e (itself x)) in
    rw some refl
repeats_across alike itself (x ∷ xs) ys t (inr i) j = or_right (list_any (alike x) (xs ++ ys)) (has_repeat alike (xs ++ ys)) (repeats_across alike itself xs ys t i j)

repeats_after : {A : Type 0} (alike : A → A → Bool) (xs ys : List A) → has_repeat alike (xs ++ ys) ≡ false → has_repeat alike ys ≡ false
repeats_after alike [] ys h = h
repeats_after alike (x ∷ xs) ys h = repeats_after alike xs ys (or_parts (list_any (alike x) (xs ++ ys)) (has_repeat alike (xs ++ ys)) h).1

pub one_has : {A B : Type 0} (alike : B → B → Bool) → ((x : B) → alike x x ≡ true) → (f : A → List B) (xs : List A) (x y : A) (t : B) → has_repeat alike (flat_map f xs) ≡ false
    → IsIn x xs → IsIn y xs → IsIn t (f x) → IsIn t (f y) → x ≡ y
one_has alike itself f [] x y t h i j k l = absurd i
one_has alike itself f (z ∷ zs) x y t h (inl a) (inl b) k l = sym a ∙ b
one_has alike itself f (z ∷ zs) x y t h (inl a) (inr j) k l =
    let twice : has_repeat alike (f z ++ flat_map f zs) ≡ true = repeats_across alike itself (f z) (flat_map f zs) t (subst (λ w. IsIn t (f w)) (sym a) k) (into_flat_map f zs y t j l) in
    absurd (cc)
one_has alike itself f (z ∷ zs) x y t h (inr i) (inl b) k l =
    let twice : has_repeat alike (f z ++ flat_map f zs) ≡ true = repeats_across alike itself (f z) (flat_map f zs) t (subst (λ w. IsIn t (f w)) (sym b) l) (into_flat_map f zs x t i k) in
    absurd (cc)
one_has alike itself f (z ∷ zs) x y t h (inr i) (inr j) k l = one_has alike itself f zs x y t (repeats_after alike (f z) (flat_map f zs) h) i j k l

-- the URI of a schema is one of those that its document opens
pub own_uri : (d : Document) (s : Schema) → IsIn s (schemas_of d.base d.value) → IsIn s.resource (resources_of d)
own_uri d s i =
    let h = document_roots d.base d.value s i in
    subst (λ u. IsIn u (resources_of d)) (sym h.resource)
    (into_map (λ r. r.resource) (filter is_root (schemas_of d.base d.value)) h.root (into_filter is_root (schemas_of d.base d.value) h.root h.held (pointer_root h.root h.at_root)))

-- ---- where none is missing each reference has a target
pub has_target : (ds : List Document) → missing_references ds ≡ [] → (s : Schema) (r : Text) → IsIn s (table_of ds) → IsIn r (references s) → is_some (target (table_of ds) r) ≡ true
has_target ds none_missing s r i j = by (target (table_of ds) r) refl
  where
    by : (o : Option Schema) → target (table_of ds) r ≡ o → is_some o ≡ true
    by (Some t) e = refl
    by None e =
        let d = in_flat_map (λ c. schemas_of c.base c.value) ds s i in
        let referred : IsIn r (flat_map references_in ds) = into_flat_map references_in ds d.0 r d.1 (into_flat_map references (schemas_of (d.0).base (d.0).value) s r d.2 j) in
        let lost : IsIn r (missing_references ds) = into_filter (λ t. is_none (target (table_of ds) t)) (flat_map references_in ds) r referred (ap is_none e) in
        absurd (subst (IsIn r) none_missing lost)

-- ---- a part of the documents that has a schema under a URI has all of them
module _ (ds : List Document) (q : Document → Bool) (distinct : has_repeat same_text (resource_uris_of ds) ≡ false) where
  part_held : (s : Schema) → IsIn s (table_of (filter q ds)) → IsIn s (table_of ds)
  part_held s i =
      let r = in_flat_map (λ d. schemas_of d.base d.value) (filter q ds) s i in
      into_flat_map (λ d. schemas_of d.base d.value) ds r.0 s (from_filter q ds r.0 r.1) r.2

  same_find : (uri : Text) (p : Schema → Bool) (s : Schema) → IsIn s (table_of (filter q ds)) → s.resource ≡ uri
      → find (λ t. same_text uri t.resource && p t) (table_of ds) ≡ find (λ t. same_text uri t.resource && p t) (table_of (filter q ds))
  same_find uri p s i e = find_in_part (λ d. schemas_of d.base d.value) (λ t. same_text uri t.resource && p t) q ds none
    where
      both : (b c : Bool) → (b ≡ true → ⊥) → (b && c) ≡ false
      both true c h = absurd (h refl)
      both false c h = refl

      passes : (d : Document) → IsIn d (filter q ds) → q d ≡ true
      passes d j = filter_passes q ds d j

      none : (d : Document) → IsIn d ds → q d ≡ false → (t : Schema) → IsIn t (schemas_of d.base d.value) → (same_text uri t.resource && p t) ≡ false
      none d j out t k = both (same_text uri t.resource) (p t) differs
        where
          differs : same_text uri t.resource ≡ true → ⊥
          differs f =
              let r = in_flat_map (λ c. schemas_of c.base c.value) (filter q ds) s i in
              let uris : s.resource ≡ t.resource = e ∙ same_text_is uri t.resource f in
              let one : r.0 ≡ d =
              one_has same_text same_text_itself resources_of ds r.0 d t.resource distinct (from_filter q ds r.0 r.1) j (subst (λ u. IsIn u (resources_of r.0)) uris (own_uri r.0 s r.2)) (own_uri d t k) in
              let kept : q d ≡ true = subst (λ c. q c ≡ true) one (passes r.0 r.1) in
              absurd (let no : true ≡ false = sym kept ∙ out in cc)

  found_same : (uri : Text) (p : Schema → Bool) → is_some (find (λ t. same_text uri t.resource && p t) (table_of (filter q ds))) ≡ true
      → find (λ t. same_text uri t.resource && p t) (table_of ds) ≡ find (λ t. same_text uri t.resource && p t) (table_of (filter q ds))
  found_same uri p h = by (find (λ t. same_text uri t.resource && p t) (table_of (filter q ds))) refl h
    where
      by : (o : Option Schema) → find (λ t. same_text uri t.resource && p t) (table_of (filter q ds)) ≡ o → is_some o ≡ true
          → find (λ t. same_text uri t.resource && p t) (table_of ds) ≡ find (λ t. same_text uri t.resource && p t) (table_of (filter q ds))
      by None e k = absurd (cc)
      by (Some s) e k =
          let f = and_parts (same_text uri s.resource) (p s) (found_passes (λ t. same_text uri t.resource && p t) (table_of (filter q ds)) s e) in
          same_find uri p s (found_in (λ t. same_text uri t.resource && p t) (table_of (filter q ds)) s e) (sym (same_text_is uri s.resource f.0))

  target_same : (uri : Text) (f : Result Fragment Fault) → is_some (target_in (table_of (filter q ds)) uri f) ≡ true → target_in (table_of ds) uri f ≡ target_in (table_of (filter q ds)) uri f
  target_same uri (Err e) h = refl
  target_same uri (Ok no_fragment) h = found_same uri is_root h
  target_same uri (Ok (plain_name n)) h = found_same uri (is_anchor n) h
  target_same uri (Ok (tokens way)) h = ap (option_and_then (schema_at_pointer way)) (found_same uri is_root (by (resource_root (table_of (filter q ds)) uri) h))
    where
      by : (o : Option Schema) → is_some (option_and_then (schema_at_pointer way) o) ≡ true → is_some o ≡ true
      by None k = k
      by (Some s) k = refl

  equal_found : (o p : Option Schema) → p ≡ o → AreAlike o p
  equal_found o p e = subst (AreAlike o) (sym e) (by o)
    where
      by : (o : Option Schema) → AreAlike o o
      by None = tt
      by (Some s) = (refl, refl)

  part_alike : missing_references (filter q ds) ≡ [] → IsAlike (table_of (filter q ds)) (table_of ds)
  part_alike none_missing = record {
    schemas = λ s i. (s, (contains_from_in (table_of ds) s (part_held s (in_from_contains (table_of (filter q ds)) s i)), (refl, refl)));
    targets = λ s r i j. (
      has_target (filter q ds) none_missing s r (in_from_contains (table_of (filter q ds)) s i) (in_from_contains (references s) r j),
      equal_found (target (table_of (filter q ds)) r) (target (table_of ds) r)
          (target_same (without_fragment r) (fragment_of r) (has_target (filter q ds) none_missing s r (in_from_contains (table_of (filter q ds)) s i) (in_from_contains (references s) r j))),
    );
    dynamic_anchors = λ s name i.
        equal_found (schema_with_dynamic_anchor (table_of (filter q ds)) s.resource name) (schema_with_dynamic_anchor (table_of ds) s.resource name)
        (same_find s.resource (is_dynamic_anchor name) s (in_from_contains (table_of (filter q ds)) s i) refl);
  }

-- ---- what is reached is a part, and has the document that holds the URI
reached_part : (n : ℕ) (ds : List Document) (uri : Text) → (q : Document → Bool) × (reach_by_steps n ds (filter (holds_resource uri) ds) ≡ filter q ds)
reached_part zero ds uri = (holds_resource uri, refl)
reached_part (suc n) ds uri = (λ e. list_any (λ d. same_text d.canonical e.canonical || refers_to d e) (reach_by_steps n ds (filter (holds_resource uri) ds)), refl)

holder_reached : (n : ℕ) (ds : List Document) (uri : Text) (d : Document) → IsIn d ds → holds_resource uri d ≡ true → IsIn d (reach_by_steps n ds (filter (holds_resource uri) ds))
holder_reached zero ds uri d i h = into_filter (holds_resource uri) ds d i h
holder_reached (suc n) ds uri d i h =
    into_filter (λ e. list_any (λ c. same_text c.canonical e.canonical || refers_to c e) (reach_by_steps n ds (filter (holds_resource uri) ds))) ds d i
    (any_of_in (λ c. same_text c.canonical d.canonical || refers_to c d) (reach_by_steps n ds (filter (holds_resource uri) ds)) d (holder_reached n ds uri d i h)
    (rw (same_text_itself d.canonical) refl))

root_same : (ds : List Document) (uri : Text) (q : Document → Bool) → has_repeat same_text (resource_uris_of ds) ≡ false → ((d : Document) → IsIn d ds → holds_resource uri d ≡ true → IsIn d (filter q ds))
    → resource_root (table_of ds) uri ≡ resource_root (table_of (filter q ds)) uri
root_same ds uri q distinct held = by (resource_root (table_of ds) uri) refl (resource_root (table_of (filter q ds)) uri) refl
  where
    by : (o : Option Schema) → resource_root (table_of ds) uri ≡ o → (p : Option Schema) → resource_root (table_of (filter q ds)) uri ≡ p
        → resource_root (table_of ds) uri ≡ resource_root (table_of (filter q ds)) uri
    by None e None f = e ∙ sym f
    by None e (Some s) f = found_same ds q distinct uri is_root (ap is_some f)
    by (Some s) e p f =
        let passes = found_passes (λ t. same_text uri t.resource && is_root t) (table_of ds) s e in
        let d = in_flat_map (λ c. schemas_of c.base c.value) ds s (found_in (λ t. same_text uri t.resource && is_root t) (table_of ds) s e) in
        let holds : holds_resource uri d.0 ≡ true = found_somewhere (λ t. same_text uri t.resource && is_root t) (schemas_of (d.0).base (d.0).value) s d.2 passes in
        same_find ds q distinct uri is_root s (into_flat_map (λ c. schemas_of c.base c.value) (filter q ds) d.0 s (held d.0 d.1 holds) d.2)
        (sym (same_text_is uri s.resource (and_parts (same_text uri s.resource) (is_root s) passes).0))

-- ---- the law
part_enough : (matches : Text → Text → Bool) (ds : List Document) (uri : Text) (x : Value) (q : Document → Bool) → has_repeat same_text (resource_uris_of ds) ≡ false
    → missing_references (filter q ds) ≡ [] → ((d : Document) → IsIn d ds → holds_resource uri d ≡ true → IsIn d (filter q ds)) → answer matches ds uri x ≡ answer matches (filter q ds) uri x
part_enough matches ds uri x q distinct none_missing held =
    alike_tables_answer_the_same matches (filter q ds) ds uri x (part_alike ds q distinct none_missing)
    (equal_found ds q distinct (resource_root (table_of (filter q ds)) uri) (resource_root (table_of ds) uri) (root_same ds uri q distinct held))

pub reach_is_enough : ReachIsEnough
reach_is_enough matches ds uri x distinct none_missing =
    let part = reached_part (length ds) ds uri in
    let is : reach ds uri ≡ filter part.0 ds = part.1 in
    part_enough matches ds uri x part.0 distinct (ap missing_references (sym is) ∙ none_missing)
    (λ d i h. subst (IsIn d) is (holder_reached (length ds) ds uri d i h))
    ∙ ap (λ es. answer matches es uri x) (sym is)
