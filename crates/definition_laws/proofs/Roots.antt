-- In a table with distinct resource URIs an identity names one schema.
use Rattle.std.proofs.Common.{◌≡◌, ◌<◌, ◌≤◌, ◌==◌, ◌&&◌, ℕ, zero, suc, List, [], ◌∷◌, ◌++◌, map, length, true, false, Option, Some, None, option_map, option_and_then, codes, refl, sym, ap, ap₂, subst, ◌∙◌, arith, inl, inr, append_assoc, append-nil}
use Rattle.std.proofs.lemmas.Bool.{and_parts, eqb-true, or_parts}
use Rattle.std.specs.List.{filter, enumerate_from, list_any}
use Rattle.definitions.specs.Values.{Text, Value, null, boolean, integer, string, array, object, Elements, no_elements, element, Members, no_members, member, elements, members, elements_list, members_list, nesting, elements_nesting, members_nesting, text_at, same_text}
use Rattle.definitions.specs.Lists.{has_repeat}
use Rattle.definitions.specs.Pointers.{Pointer, same_pointer}
use Rattle.definitions.specs.Shapes.{Shape, one_schema, schema_list, schema_map}
use Rattle.definitions.specs.Keywords.{Keyword, keywords, shape_in}
use Rattle.definitions.specs.Schemas.{Schema, Document, opened_schema, schema_at, subschemas_by, schemas_within, schemas_from, schemas_of, table_of, is_root}
use Rattle.definitions.specs.Scanning.{resource_uris}
use Rattle.definitions.specs.Targets.{resource_root, schema_at_pointer}
use Rattle.lemmas.proofs.Texts.{same_text_itself, same_text_is}
use Rattle.definition_laws.specs.Identities.{IsDefinite, IsDistinct, IdentityNamesOneSchema, RootsAreFound, SchemasArePointedTo}
use Rattle.definition_laws.proofs.Occurrences.{IsIn, in_from_contains, contains_from_in, in_flat_map, into_flat_map, in_map, into_map, into_filter, finds_only, any_of_in, numbered_in}
use Rattle.definition_laws.proofs.Places.{IsStep, step_from, step_to, step_definite, value-opened, value-below, places, IsBelow, here, further, below_once, below_more}

-- ---- equal pointers
pub same_pointer_itself : (p : Pointer) → same_pointer p p ≡ true
same_pointer_itself [] = refl
same_pointer_itself (t ∷ ts) = rw (same_text_itself t) (same_pointer_itself ts)

pub same_pointer_is : (p q : Pointer) → same_pointer p q ≡ true → p ≡ q
same_pointer_is [] [] h = refl
same_pointer_is [] (u ∷ us) h = cc
same_pointer_is (t ∷ ts) [] h = cc
same_pointer_is (t ∷ ts) (u ∷ us) h = let p = and_parts (same_text t u) (same_pointer ts us) h in ap₂ (λ x y. x ∷ y) (same_text_is t u p.0) (same_pointer_is ts us p.1)

-- ---- roots with distinct URIs
once_by : {A : Type 0} (f : A → Text) (xs : List A) (x y : A) → has_repeat same_text (map f xs) ≡ false → IsIn x xs → IsIn y xs → f x ≡ f y → x ≡ y
once_by f [] x y h i j e = absurd i
once_by f (z ∷ zs) x y h (inl a) (inl b) e = sym a ∙ b
once_by f (z ∷ zs) x y h (inl a) (inr j) e =
    let none : list_any (same_text (f z)) (map f zs) ≡ false = (or_parts (list_any (same_text (f z)) (map f zs)) (has_repeat same_text (map f zs)) h).0 in
    let some : list_any (same_text (f z)) (map f zs) ≡ true = any_of_in (same_text (f z)) (map f zs) (f y) (into_map f zs y j) (subst (λ t. same_text (f z) t ≡ true) (ap f a ∙ e) (same_text_itself (f z))) in
    absurd (cc)
once_by f (z ∷ zs) x y h (inr i) (inl b) e =
    let none : list_any (same_text (f z)) (map f zs) ≡ false = (or_parts (list_any (same_text (f z)) (map f zs)) (has_repeat same_text (map f zs)) h).0 in
    let some : list_any (same_text (f z)) (map f zs) ≡ true = any_of_in (same_text (f z)) (map f zs) (f x) (into_map f zs x i) (subst (λ t. same_text (f z) t ≡ true) (ap f b ∙ sym e) (same_text_itself (f z))) in
    absurd (cc)
once_by f (z ∷ zs) x y h (inr i) (inr j) e = once_by f zs x y (or_parts (list_any (same_text (f z)) (map f zs)) (has_repeat same_text (map f zs)) h).1 i j e

pub root_pointer : (s : Schema) → is_root s ≡ true → s.pointer ≡ []
root_pointer s h = none s.pointer h
  where
    none : (p : Pointer) → (length p == 0) ≡ true → p ≡ []
    none [] e = refl
    none (t ∷ ts) e = absurd (omega (arith, eqb-true (length (t ∷ ts)) 0 e))

pub pointer_root : (s : Schema) → s.pointer ≡ [] → is_root s ≡ true
pointer_root s e = rw e refl

pub roots_once : (table : List Schema) (r q : Schema) → has_repeat same_text (resource_uris table) ≡ false → IsIn r table → IsIn q table → r.pointer ≡ [] → q.pointer ≡ [] → r.resource ≡ q.resource → r ≡ q
roots_once table r q h i j a b e =
    once_by (λ s. s.resource) (filter is_root table) r q h (into_filter is_root table r i (pointer_root r a)) (into_filter is_root table q j (pointer_root q b)) e

-- ---- what the walk from a schema comes to, and what comes of it
element_nesting : (vs : Elements) (v : Value) → IsIn v (elements_list vs) → nesting v ≤ elements_nesting vs
element_nesting no_elements v i = absurd i
element_nesting (element u us) v (inl e) = let same : nesting u ≡ nesting v = ap nesting e in omega arith
element_nesting (element u us) v (inr i) = omega (arith, element_nesting us v i)

member_nesting : (ms : Members) (n : Text) (v : Value) → IsIn (n, v) (members_list ms) → nesting v ≤ members_nesting ms
member_nesting no_members n v i = absurd i
member_nesting (member m u ms) n v (inl e) = let same : nesting u ≡ nesting v = ap (λ x. nesting x.1) e in omega arith
member_nesting (member m u ms) n v (inr i) = omega (arith, member_nesting ms n v i)

pub elements_nest : (v u : Value) → IsIn u (elements v) → nesting u < nesting v
elements_nest null u i = absurd i
elements_nest (boolean b) u i = absurd i
elements_nest (integer z) u i = absurd i
elements_nest (string s) u i = absurd i
elements_nest (array vs) u i = omega (arith, element_nesting vs u i)
elements_nest (object ms) u i = absurd i

pub members_nest : (v : Value) (n : Text) (u : Value) → IsIn (n, u) (members v) → nesting u < nesting v
members_nest null n u i = absurd i
members_nest (boolean b) n u i = absurd i
members_nest (integer z) n u i = absurd i
members_nest (string s) n u i = absurd i
members_nest (array vs) n u i = absurd i
members_nest (object ms) n u i = omega (arith, member_nesting ms n u i)

places_nest : (v : Value) (shape : Shape) (way : Pointer) (u : Value) → IsIn (way, u) (places v shape) → nesting u ≤ nesting v
places_nest v one_schema way u (inl e) = let same : nesting v ≡ nesting u = ap (λ x. nesting x.1) e in omega arith
places_nest v one_schema way u (inr i) = absurd i
places_nest v schema_list way u i =
    let r = in_map _ _ _ i in
    omega (arith, elements_nest v u (numbered_in 0 (elements v) (r.0).0 u (subst (λ x. IsIn ((r.0).0, x) (enumerate_from 0 (elements v))) (ap (λ x. x.1) r.2) r.1)))
places_nest v schema_map way u i =
    let r = in_map _ _ _ i in
    omega (arith, members_nest v (r.0).0 u (subst (λ x. IsIn ((r.0).0, x) (members v)) (ap (λ x. x.1) r.2) r.1))
places_nest v _ way u i = absurd i

pub step_nests : (rows : List Keyword) (s t : Schema) (way : Pointer) → IsStep rows s t way → nesting t.value < nesting s.value
step_nests rows s t way h =
    let value_is : nesting t.value ≡ nesting h.part = ap (λ x. nesting x.value) h.is ∙ ap nesting (value-below s way h.part) in
    omega (arith, members_nest s.value h.name h.value h.inside, places_nest h.value (shape_in rows h.name) h.rest h.part h.place)

pub within_from : (rows : List Keyword) (n : ℕ) (way : Pointer) (s : Schema) (x : Pointer × Schema) → IsIn x (schemas_within rows n way s) → (p : Pointer) × (x.0 ≡ way ++ p) × IsBelow rows s x.1 p
within_from rows zero way s x i = absurd i
within_from rows (suc n) way s x (inl e) = ([], sym (ap (λ y. y.0) e) ∙ sym (append-nil way), here (ap (λ y. y.1) e) refl)
within_from rows (suc n) way s x (inr i) =
    let r = in_flat_map (λ t. schemas_within rows n (way ++ t.0) t.1) (subschemas_by rows s) x i in
    let t : Pointer × Schema = r.0 in
    let q = within_from rows n (way ++ t.0) t.1 x r.2 in
    (t.0 ++ q.0, q.1 ∙ append_assoc way t.0 q.0, further (step_from rows s t.1 t.0 r.1) q.2 refl)

pub within_to : (rows : List Keyword) (n : ℕ) (way : Pointer) (s t : Schema) (p : Pointer) → nesting s.value < n → IsBelow rows s t p → IsIn (way ++ p, t) (schemas_within rows n way s)
within_to rows zero way s t p l b = absurd (omega arith)
within_to rows (suc n) way s t p l (here e f) = inl (ap₂ (λ x y. (x, y)) (sym (append-nil way) ∙ ap (λ x. way ++ x) (sym f)) e)
within_to rows (suc n) way s t p l (further {t = u} {way = first} {rest = rest} step more w) =
    let deeper : IsIn ((way ++ first) ++ rest, t) (schemas_within rows n (way ++ first) u) =
    within_to rows n (way ++ first) u t rest (omega (arith, step_nests rows s u first step)) more in
    let tokens_are : (way ++ first) ++ rest ≡ way ++ p = append_assoc way first rest ∙ ap (λ x. way ++ x) (sym w) in
    inr (into_flat_map (λ x. schemas_within rows n (way ++ x.0) x.1) (subschemas_by rows s) (first, u) (way ++ p, t) (step_to rows s u first step)
    (subst (λ x. IsIn (x, t) (schemas_within rows n (way ++ first) u)) tokens_are deeper))

pub pointed_from : (r s : Schema) (way : Pointer) → IsDefinite r.value → IsBelow keywords r s way → schema_at_pointer way r ≡ Some s
pointed_from r s way d b =
    ap (option_map (λ t. t.1)) (finds_only (λ t. same_pointer way t.0) (schemas_from r) (way, s) (within_to keywords (suc (nesting r.value)) [] r s way (omega arith) b)
    (same_pointer_itself way) only)
  where
    only : (x : Pointer × Schema) → IsIn x (schemas_from r) → same_pointer way x.0 ≡ true → x ≡ (way, s)
    only x i passes =
        let q = within_from keywords (suc (nesting r.value)) [] r x i in
        let ways : x.0 ≡ way = sym (same_pointer_is way x.0 passes) in
        let leads : IsBelow keywords r x.1 way = subst (IsBelow keywords r x.1) (sym q.1 ∙ ways) q.2 in
        ap₂ (λ w t. (w, t)) ways (below_once keywords r x.1 s way leads b d)

-- ---- each schema belongs to a root in the table, which its pointer leads from
pub record HasRoot (rows : List Keyword) (table : List Schema) (s : Schema) : Type 0 where
  pub root : Schema
  pub held : IsIn root table
  pub at_root : root.pointer ≡ []
  pub leads : IsBelow rows root s s.pointer
  pub resource : s.resource ≡ root.resource

own_root : (rows : List Keyword) (table : List Schema) (s : Schema) → IsIn s table → s.pointer ≡ [] → HasRoot rows table s
own_root rows table s i e = record { root = s; held = i; at_root = e; leads = here refl e; resource = refl }

step_root : (rows : List Keyword) (table : List Schema) (s t : Schema) (way : Pointer) → HasRoot rows table s → IsStep rows s t way → IsIn t table → HasRoot rows table t
step_root rows table s t way h step i = by_id (text_at (codes "$id") step.part) step.is
  where
    by_id : (id : Option Text) → t ≡ opened_schema s.resource (s.pointer ++ way) step.part id → HasRoot rows table t
    by_id None e = record {
      root = h.root;
      held = h.held;
      at_root = h.at_root;
      leads = subst (IsBelow rows h.root t) (sym (ap (λ x. x.pointer) e)) (below_more rows h.root s t s.pointer way h.leads step);
      resource = ap (λ x. x.resource) e ∙ h.resource;
    }
    by_id (Some id) e = own_root rows table t i (ap (λ x. x.pointer) e)

start_held : (rows : List Keyword) (n : ℕ) (table : List Schema) (way : Pointer) (s : Schema) (x : Pointer × Schema) → IsIn x (schemas_within rows n way s)
    → ((y : Pointer × Schema) → IsIn y (schemas_within rows n way s) → IsIn y.1 table) → IsIn s table
start_held rows zero table way s x i held = absurd i
start_held rows (suc n) table way s x i held = held (way, s) (inl refl)

within_roots : (rows : List Keyword) (table : List Schema) (n : ℕ) (way : Pointer) (s : Schema) → ((x : Pointer × Schema) → IsIn x (schemas_within rows n way s) → IsIn x.1 table)
    → HasRoot rows table s → (x : Pointer × Schema) → IsIn x (schemas_within rows n way s) → HasRoot rows table x.1
within_roots rows table zero way s held h x i = absurd i
within_roots rows table (suc n) way s held h x (inl e) = subst (λ y. HasRoot rows table y.1) e h
within_roots rows table (suc n) way s held h x (inr i) =
    let r = in_flat_map (λ t. schemas_within rows n (way ++ t.0) t.1) (subschemas_by rows s) x i in
    let t : Pointer × Schema = r.0 in
    let further_held : (y : Pointer × Schema) → IsIn y (schemas_within rows n (way ++ t.0) t.1) → IsIn y.1 table =
    λ y j. held y (inr (into_flat_map (λ u. schemas_within rows n (way ++ u.0) u.1) (subschemas_by rows s) t y r.1 j)) in
    let inside : IsIn t.1 table = start_held rows n table (way ++ t.0) t.1 x r.2 further_held in
    within_roots rows table n (way ++ t.0) t.1 further_held (step_root rows table s t.1 t.0 h (step_from rows s t.1 t.0 r.1) inside) x r.2

pub root_opened : (base : Text) (v : Value) → (schema_at base [] v).pointer ≡ []
root_opened base v = by_id (text_at (codes "$id") v)
  where
    by_id : (id : Option Text) → (opened_schema base [] v id).pointer ≡ []
    by_id None = refl
    by_id (Some id) = refl

-- within one document
pub document_roots : (base : Text) (v : Value) (s : Schema) → IsIn s (schemas_of base v) → HasRoot keywords (schemas_of base v) s
document_roots base v s i =
    let top : Schema = schema_at base [] v in
    let r = in_map (λ t. t.1) (schemas_from top) s i in
    let held : (x : Pointer × Schema) → IsIn x (schemas_from top) → IsIn x.1 (schemas_of base v) = λ x j. into_map (λ t. t.1) (schemas_from top) x j in
    subst (HasRoot keywords (schemas_of base v)) r.2
    (within_roots keywords (schemas_of base v) (suc (nesting top.value)) [] top held (own_root keywords (schemas_of base v) top (held ([], top) (inl refl)) (root_opened base v)) r.0 r.1)

pub table_roots : (ds : List Document) (s : Schema) → IsIn s (table_of ds) → HasRoot keywords (table_of ds) s
table_roots ds s i =
    let r = in_flat_map (λ d. schemas_of d.base d.value) ds s i in
    let h = document_roots (r.0).base (r.0).value s r.2 in
    record {
      root = h.root;
      held = into_flat_map (λ d. schemas_of d.base d.value) ds r.0 h.root r.1 h.held;
      at_root = h.at_root;
      leads = h.leads;
      resource = h.resource;
    }

below_definite : (rows : List Keyword) (s t : Schema) (way : Pointer) → IsBelow rows s t way → IsDefinite s.value → IsDefinite t.value
below_definite rows s t way (here e f) d = subst (λ x. IsDefinite x.value) e d
below_definite rows s t way (further {t = u} {way = first} {rest = rest} step more w) d = below_definite rows u t rest more (step_definite rows s u first step d)

pub table_definite : (ds : List Document) → ((d : Document) → IsIn d ds → IsDefinite d.value) → (s : Schema) → IsIn s (table_of ds) → IsDefinite s.value
table_definite ds definite s i =
    let r = in_flat_map (λ d. schemas_of d.base d.value) ds s i in
    let d : Document = r.0 in
    let top : Schema = schema_at d.base [] d.value in
    let q = in_map (λ t. t.1) (schemas_from top) s r.2 in
    let o = within_from keywords (suc (nesting top.value)) [] top q.0 q.1 in
    let value_is : d.value ≡ top.value = sym (value-opened d.base [] d.value _) in
    below_definite keywords top s o.0 (subst (λ x. IsBelow keywords top x o.0) q.2 o.2) (subst IsDefinite value_is (definite d r.1))

-- ---- the laws
values_in : (ds : List Document) → IsDistinct ds → (d : Document) → IsIn d ds → IsDefinite d.value
values_in ds h d i = h.values d (contains_from_in ds d i)

pub identity_names_one : IdentityNamesOneSchema
identity_names_one ds h s t i j e =
    let table : List Schema = table_of ds in
    let a = table_roots ds s (in_from_contains table s i) in
    let b = table_roots ds t (in_from_contains table t j) in
    let resources : s.resource ≡ t.resource = ap (λ x. x.0) e in
    let pointers : s.pointer ≡ t.pointer = ap (λ x. x.1) e in
    let roots : a.root ≡ b.root = roots_once table a.root b.root h.uris a.held b.held a.at_root b.at_root (sym a.resource ∙ resources ∙ b.resource) in
    let moved : IsBelow keywords a.root t s.pointer = subst (λ x. x) (ap₂ (λ r p. IsBelow keywords r t p) (sym roots) (sym pointers)) b.leads in
    below_once keywords a.root s t s.pointer a.leads moved (table_definite ds (values_in ds h) a.root a.held)

pub roots_found : RootsAreFound
roots_found ds h r i root =
    let table : List Schema = table_of ds in
    let inside = in_from_contains table r i in
    let pointer = root_pointer r root in
    finds_only (λ s. same_text r.resource s.resource && is_root s) table r inside (rw (same_text_itself r.resource) root)
    (λ q j passes. let p = and_parts (same_text r.resource q.resource) (is_root q) passes in
    roots_once table q r h j inside (root_pointer q p.1) pointer (sym (same_text_is r.resource q.resource p.0)))

pub schemas_pointed_to : SchemasArePointedTo
schemas_pointed_to ds h s i =
    let table : List Schema = table_of ds in
    let a = table_roots ds s (in_from_contains table s i) in
    let found : resource_root table s.resource ≡ Some a.root =
    ap (resource_root table) a.resource ∙ roots_found ds h.uris a.root (contains_from_in table a.root a.held) (pointer_root a.root a.at_root) in
    ap (option_and_then (schema_at_pointer s.pointer)) found ∙ pointed_from a.root s s.pointer (table_definite ds (values_in ds h) a.root a.held) a.leads
