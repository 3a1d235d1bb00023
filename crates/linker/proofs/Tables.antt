-- What a table of documents with distinct resource URIs finds by a URI: what the one document finds that holds it.
use Rattle.std.proofs.Common.{◌≡◌, Bool, true, false, cond, ◌&&◌, ◌⊎◌, List, [], ◌∷◌, ◌++◌, Option, Some, None, Contains, filter, find, flat_map, option_and_then, refl, sym, ap, ap₂, subst, ◌∙◌, inl, inr, true≢false}
use Rattle.std.specs.Option.{option_or}
use Rattle.std.proofs.lemmas.Bool.{false_from_ne_true, and_parts}
use Rattle.std.proofs.lemmas.List.Folds.{find-append}
use Rattle.definitions.specs.Values.{Text, same_text}
use Rattle.definitions.specs.Lists.{has_repeat}
use Rattle.definitions.specs.Fragments.{Fragment, no_fragment, tokens, plain_name}
use Rattle.definitions.specs.Schemas.{Schema, Document, is_root, schemas_of, table_of}
use Rattle.definitions.specs.Scanning.{resource_uris}
use Rattle.definitions.specs.Targets.{resource_root, schema_with_anchor, schema_with_dynamic_anchor, is_anchor, is_dynamic_anchor, schema_at_pointer, target_by}
use Rattle.definitions.specs.Reach.{holds_resource}
use Rattle.definition_laws.proofs.Membership.{nothing_in, is_first, is_later, first_or_later, in_map, in_filter, found_none}
use Rattle.definition_laws.proofs.Occurrences.{in_from_contains, contains_from_in}
use Rattle.definition_laws.proofs.Resources.{one_document, opened_is_root, table_uris}
use Rattle.definition_laws.proofs.Roots.{document_roots, pointer_root}

-- ---- the first element of a list that passes a test
find_in_none : {X Y : Type 0} (f : X → List Y) (p : Y → Bool) (xs : List X) → ((x : X) → Contains xs x → find p (f x) ≡ None) → find p (flat_map f xs) ≡ None
find_in_none f p [] h = refl
find_in_none f p (x ∷ xs) h =
    find-append p (f x) (flat_map f xs)
    ∙ ap₂ (λ a b. option_or a b) (h x (is_first x xs)) (find_in_none f p xs (λ y c. h y (is_later x y xs c)))

-- where the others have none
abbrev HasAlone : {X Y : Type 0} → (X → List Y) → (Y → Bool) → X → List X → Type 0
HasAlone {X} f p x xs = (y : X) → Contains xs y → (y ≡ x) ⊎ (find p (f y) ≡ None)

find_in_first : {X Y : Type 0} (f : X → List Y) (p : Y → Bool) (x : X) (xs : List X) → HasAlone f p x xs → find p (f x ++ flat_map f xs) ≡ find p (f x)
find_in_first {X} {Y} f p x xs alone = find-append p (f x) (flat_map f xs) ∙ by (find p (f x)) refl
  where
    by : (o : Option Y) → find p (f x) ≡ o → option_or o (find p (flat_map f xs)) ≡ o
    by None e = find_in_none f p xs (λ y c. elim (alone y c) [
      | inl same ↦ ap (λ z. find p (f z)) same ∙ e
      | inr none ↦ none
    ])
    by (Some y) e = refl

find_in_one : {X Y : Type 0} (f : X → List Y) (p : Y → Bool) (x : X) (xs : List X) → HasAlone f p x xs → Contains xs x → find p (flat_map f xs) ≡ find p (f x)
find_in_one f p x [] alone c = absurd (nothing_in x c)
find_in_one {X} f p x (y ∷ ys) alone c = elim (first_or_later y x ys c) [
  | inl same ↦ here same
  | inr later ↦ elim (alone y (is_first y ys)) [
    | inl same ↦ here same
    | inr none ↦ find-append p (f y) (flat_map f ys) ∙ ap (λ o. option_or o (find p (flat_map f ys))) none ∙ find_in_one f p x ys others later
  ]
]
  where
    others : HasAlone f p x ys
    others z d = alone z (is_later y z ys d)

    here : y ≡ x → find p (f y ++ flat_map f ys) ≡ find p (f x)
    here same = ap (λ z. find p (f z ++ flat_map f ys)) same ∙ find_in_first f p x ys others

-- ---- a test of the schemas of one resource
abbrev pub in_resource : Text → (Schema → Bool) → Schema → Bool
in_resource uri test s = same_text uri s.resource && test s

-- a document holds the resources of its schemas
pub resource_held : (d : Document) (uri : Text) (s : Schema) → Contains (schemas_of d.base d.value) s → same_text uri s.resource ≡ true → holds_resource uri d ≡ true
resource_held d uri s c same =
    let schemas = schemas_of d.base d.value in
    let h = document_roots d.base d.value s (in_from_contains schemas s c) in
    opened_is_root schemas uri h.root.resource
    (in_map (λ (t : Schema). t.resource) h.root (filter is_root schemas) (in_filter is_root h.root schemas (contains_from_in schemas h.root h.held) (pointer_root h.root h.at_root)))
    (ap (same_text uri) (sym h.resource) ∙ same)

-- and has no schema in another
pub unheld : (d : Document) (uri : Text) (test : Schema → Bool) → holds_resource uri d ≡ false → find (in_resource uri test) (schemas_of d.base d.value) ≡ None
unheld d uri test e = found_none (in_resource uri test) (schemas_of d.base d.value) (λ s c. false_from_ne_true (in_resource uri test s) (λ passes.
    true≢false (sym (resource_held d uri s c (and_parts (same_text uri s.resource) (test s) passes).0) ∙ e)))

-- ---- the document that holds the URI
-- one of documents with distinct resource URIs
pub record IsHolder (ds : List Document) (uri : Text) (d : Document) : Type 0 where
  pub distinct : has_repeat same_text (resource_uris (table_of ds)) ≡ false
  pub inside : Contains ds d
  pub holds : holds_resource uri d ≡ true

pub find_in_holder : (ds : List Document) (uri : Text) (d : Document) (test : Schema → Bool) → IsHolder ds uri d
    → find (in_resource uri test) (table_of ds) ≡ find (in_resource uri test) (schemas_of d.base d.value)
find_in_holder ds uri d test h = find_in_one (λ e. schemas_of e.base e.value) (in_resource uri test) d ds (λ e c. by e c (holds_resource uri e) refl) h.inside
  where
    by : (e : Document) → Contains ds e → (b : Bool) → holds_resource uri e ≡ b → (e ≡ d) ⊎ (find (in_resource uri test) (schemas_of e.base e.value) ≡ None)
    by e c true holds = inl (one_document ds uri e d (ap (has_repeat same_text) (sym (table_uris ds)) ∙ h.distinct) c h.inside holds h.holds)
    by e c false none = inr (unheld e uri test none)

pub find_nowhere : (ds : List Document) (uri : Text) (test : Schema → Bool) → ((d : Document) → Contains ds d → holds_resource uri d ≡ false)
    → find (in_resource uri test) (table_of ds) ≡ None
find_nowhere ds uri test none = find_in_none (λ d. schemas_of d.base d.value) (in_resource uri test) ds (λ d c. unheld d uri test (none d c))

-- ---- the laws
pub root_in_holder : (ds : List Document) (uri : Text) (d : Document) → IsHolder ds uri d → resource_root (table_of ds) uri ≡ resource_root (schemas_of d.base d.value) uri
root_in_holder ds uri d h = find_in_holder ds uri d is_root h

pub anchored_in_holder : (ds : List Document) (uri name : Text) (d : Document) → IsHolder ds uri d
    → schema_with_anchor (table_of ds) uri name ≡ schema_with_anchor (schemas_of d.base d.value) uri name
anchored_in_holder ds uri name d h = find_in_holder ds uri d (is_anchor name) h

pub dynamically_anchored_in_holder : (ds : List Document) (uri name : Text) (d : Document) → IsHolder ds uri d
    → schema_with_dynamic_anchor (table_of ds) uri name ≡ schema_with_dynamic_anchor (schemas_of d.base d.value) uri name
dynamically_anchored_in_holder ds uri name d h = find_in_holder ds uri d (is_dynamic_anchor name) h

pub target_in_holder : (ds : List Document) (uri : Text) (d : Document) (f : Fragment) → IsHolder ds uri d
    → target_by (table_of ds) uri f ≡ target_by (schemas_of d.base d.value) uri f
target_in_holder ds uri d no_fragment h = root_in_holder ds uri d h
target_in_holder ds uri d (tokens way) h = ap (option_and_then (schema_at_pointer way)) (root_in_holder ds uri d h)
target_in_holder ds uri d (plain_name n) h = anchored_in_holder ds uri n d h

-- where no document holds the URI
pub root_nowhere : (ds : List Document) (uri : Text) → ((d : Document) → Contains ds d → holds_resource uri d ≡ false) → resource_root (table_of ds) uri ≡ None
root_nowhere ds uri none = find_nowhere ds uri is_root none

pub anchored_nowhere : (ds : List Document) (uri name : Text) → ((d : Document) → Contains ds d → holds_resource uri d ≡ false) → schema_with_anchor (table_of ds) uri name ≡ None
anchored_nowhere ds uri name none = find_nowhere ds uri (is_anchor name) none

pub dynamically_anchored_nowhere : (ds : List Document) (uri name : Text) → ((d : Document) → Contains ds d → holds_resource uri d ≡ false)
    → schema_with_dynamic_anchor (table_of ds) uri name ≡ None
dynamically_anchored_nowhere ds uri name none = find_nowhere ds uri (is_dynamic_anchor name) none

pub target_nowhere : (ds : List Document) (uri : Text) (f : Fragment) → ((d : Document) → Contains ds d → holds_resource uri d ≡ false)
    → target_by (table_of ds) uri f ≡ None
target_nowhere ds uri no_fragment none = root_nowhere ds uri none
target_nowhere ds uri (tokens way) none = ap (option_and_then (schema_at_pointer way)) (root_nowhere ds uri none)
target_nowhere ds uri (plain_name n) none = anchored_nowhere ds uri n none

-- ---- the first document that holds the URI
holder_at : (uri : Text) (e : Document) (es : List Document) (d : Document) (b : Bool) → holds_resource uri e ≡ b
    → (find (holds_resource uri) es ≡ Some d → Contains es d × (holds_resource uri d ≡ true))
    → cond b (Some e) (find (holds_resource uri) es) ≡ Some d → Contains (e ∷ es) d × (holds_resource uri d ≡ true)
holder_at uri e es d true holds more found =
    let same : e ≡ d = cc in
    (subst (Contains (e ∷ es)) same (is_first e es), ap (holds_resource uri) (sym same) ∙ holds)
holder_at uri e es d false none more found = let rest = more found in (is_later e d es rest.0, rest.1)

pub found_holds : (ds : List Document) (uri : Text) (d : Document) → find (holds_resource uri) ds ≡ Some d → Contains ds d × (holds_resource uri d ≡ true)
found_holds [] uri d found = absurd (cc)
found_holds (e ∷ es) uri d found = holder_at uri e es d (holds_resource uri e) refl (found_holds es uri d) found

pub found_holder : (ds : List Document) (uri : Text) (d : Document) → has_repeat same_text (resource_uris (table_of ds)) ≡ false → find (holds_resource uri) ds ≡ Some d
    → IsHolder ds uri d
found_holder ds uri d distinct found = let h = found_holds ds uri d found in record { distinct = distinct; inside = h.0; holds = h.1 }

none_at : (uri : Text) (e : Document) (es : List Document) (d : Document) (b : Bool) → holds_resource uri e ≡ b
    → (find (holds_resource uri) es ≡ None → Contains es d → holds_resource uri d ≡ false)
    → cond b (Some e) (find (holds_resource uri) es) ≡ None → Contains (e ∷ es) d → holds_resource uri d ≡ false
none_at uri e es d true holds more none c = absurd (cc)
none_at uri e es d false free more none c = elim (first_or_later e d es c) [
  | inl same ↦ ap (holds_resource uri) (sym same) ∙ free
  | inr later ↦ more none later
]

pub no_holder : (ds : List Document) (uri : Text) → find (holds_resource uri) ds ≡ None → (d : Document) → Contains ds d → holds_resource uri d ≡ false
no_holder [] uri none d c = absurd (nothing_in d c)
no_holder (e ∷ es) uri none d c = none_at uri e es d (holds_resource uri e) refl (λ free later. no_holder es uri free d later) none c
