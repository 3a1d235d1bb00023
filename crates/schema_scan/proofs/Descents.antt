-- Where a pointer leads from a schema, by the keyword's name and shape.
use Rattle.std.proofs.Common.{◌≡◌, ◌≢◌, ◌<◌, ◌≤◌, ◌+◌, ◌^◌, ◌||◌, ℕ, zero, suc, List, [], ◌∷◌, ◌++◌, map, length, Bool, true, false, cond, Option, Some, None, option_map, decimal, nat_cmp, refl, sym, ap, ap₂, subst, ◌∙◌, arith, inl, inr, append-nil}
use Rattle.std.proofs.lemmas.Cmp.{nat_list_cmp_total, tied_itself}
use Rattle.std.proofs.lemmas.Fmt.{decimal_injective}
use Rattle.std.proofs.lemmas.Grind.{flat_map-append}
use Rattle.std.proofs.lemmas.List.{map-append, length-append, length-map}
use Rattle.std.specs.Cmp.Lexicographic.{slice_cmp}
use Rattle.std.specs.List.{flat_map, list_any, slice_get, enumerate_from, Contains}
use Rattle.definitions.specs.Values.{Text, Value, elements, members, entry, nesting, same_text}
use Rattle.definitions.specs.Lists.{has_repeat}
use Rattle.definitions.specs.Pointers.{Pointer}
use Rattle.definitions.specs.Shapes.{Shape, one_schema, schema_list, schema_map}
use Rattle.definitions.specs.Keywords.{keywords, shape_in}
use Rattle.definitions.specs.Schemas.{Schema, below, at_place, subschemas_by, schemas_within}
use Rattle.definitions.specs.Targets.{schema_at_pointer}
use Rattle.lemmas.proofs.Texts.{same_text_itself, same_text_is, same_text_differs}
use Rattle.json_doc.specs.Members.{HasNamesInOrder}
use Rattle.definition_laws.proofs.Occurrences.{IsIn, contains_from_in, into_map}
use Rattle.definition_laws.proofs.Places.{step_to, value-below, places}
use Rattle.definition_laws.proofs.Placing.{ascending_distinct}
use Rattle.definition_laws.proofs.Roots.{elements_nest, members_nest}
use Rattle.keywords.specs.Shapes.{shape_view}
use Rattle.keywords.specs.declared.shape.Shape as asked
use Rattle.keywords.specs.declared.shape.Shape.TheVariants.{OneSchema, SchemaList, SchemaMap}
use Rattle.schema_scan.specs.Descents.{pointed_schema, LeadsNowhere, StepsTo, schema_shape, row, name_of, IsHeld}
use Rattle.schema_scan.proofs.Lookups.{look, prefixed, keyed, look_keyed-none, look_keyed-some, look_keyed-empty}
use Rattle.schema_scan.proofs.Levels.{within_behind, within_levels}

-- ---- the schemas below, by keyword
abbrev pub inner : ℕ → Schema → Text → Value → Shape → List (Pointer × Schema)
inner n s k v one_schema = schemas_within keywords n [] (below s (k ∷ []) v)
inner n s k v schema_list = keyed (λ (e : ℕ × Value). decimal e.0) (λ e. schemas_within keywords n [] (below s (k ∷ decimal e.0 ∷ []) e.1)) (enumerate_from 0 (elements v))
inner n s k v schema_map = keyed (λ (m : Text × Value). m.0) (λ m. schemas_within keywords n [] (below s (k ∷ m.0 ∷ []) m.1)) (members v)
inner n s k v _ = []

module _ {X : Type 0} (n : ℕ) (s : Schema) (k : Text) (key : X → Text) (val : X → Value) where
  two_tokens : (xs : List X)
      → flat_map (λ (t : Pointer × Schema). schemas_within keywords n t.0 t.1) (map (λ e. (k ∷ key e ∷ [], below s (k ∷ key e ∷ []) (val e))) xs)
      ≡ map (prefixed k) (keyed key (λ e. schemas_within keywords n [] (below s (k ∷ key e ∷ []) (val e))) xs)
  two_tokens [] = refl
  two_tokens (x ∷ xs) =
      ap₂ (λ ys zs. ys ++ zs)
      (within_behind keywords n k (key x ∷ []) (below s (k ∷ key x ∷ []) (val x)) ∙ ap (map (prefixed k)) (within_behind keywords n (key x) [] (below s (k ∷ key x ∷ []) (val x))))
      (two_tokens xs)
      ∙ sym (map-append (prefixed k) (map (prefixed (key x)) (schemas_within keywords n [] (below s (k ∷ key x ∷ []) (val x)))) (keyed key (λ e. schemas_within keywords n [] (below s (k ∷ key e ∷ []) (val e))) xs))

inner_is : (n : ℕ) (s : Schema) (k : Text) (v : Value) (shape : Shape)
    → flat_map (λ (t : Pointer × Schema). schemas_within keywords n t.0 t.1) (at_place s k v shape) ≡ map (prefixed k) (inner n s k v shape)
inner_is n s k v one_schema = append-nil (schemas_within keywords n (k ∷ []) (below s (k ∷ []) v)) ∙ within_behind keywords n k [] (below s (k ∷ []) v)
inner_is n s k v schema_list = two_tokens n s k (λ (e : ℕ × Value). decimal e.0) (λ e. e.1) (enumerate_from 0 (elements v))
inner_is n s k v schema_map = two_tokens n s k (λ (m : Text × Value). m.0) (λ m. m.1) (members v)
inner_is n s k v _ = refl

by_keyword : (n : ℕ) (s : Schema) (ms : List (Text × Value))
    → flat_map (λ (t : Pointer × Schema). schemas_within keywords n t.0 t.1) (flat_map (λ m. at_place s m.0 m.1 (shape_in keywords m.0)) ms)
    ≡ keyed (λ (m : Text × Value). m.0) (λ m. inner n s m.0 m.1 (shape_in keywords m.0)) ms
by_keyword n s [] = refl
by_keyword n s (m ∷ ms) =
    flat_map-append (λ t. schemas_within keywords n t.0 t.1) (at_place s m.0 m.1 (shape_in keywords m.0)) (flat_map (λ l. at_place s l.0 l.1 (shape_in keywords l.0)) ms)
    ∙ ap₂ (λ ys zs. ys ++ zs) (inner_is n s m.0 m.1 (shape_in keywords m.0)) (by_keyword n s ms)

looked : (k : Text) (rest : Pointer) (s : Schema)
    → schema_at_pointer (k ∷ rest) s ≡ look (k ∷ rest) (keyed (λ (m : Text × Value). m.0) (λ m. inner (nesting s.value) s m.0 m.1 (shape_in keywords m.0)) (members s.value))
looked k rest s = ap (look (k ∷ rest)) (by_keyword (nesting s.value) s (members s.value))

-- ---- the row of a name
pub row-entry : (name : Text) (ms : List (Text × Value)) → row name_of name ms ≡ option_map {U = Text × Value} (λ v. (name, v)) (entry name ms)
row-entry name [] = refl
row-entry name (m ∷ ms) = by (same_text name m.0) refl (row-entry name ms)
  where
    by : (b : Bool) → same_text name m.0 ≡ b → row name_of name ms ≡ option_map {U = Text × Value} (λ v. (name, v)) (entry name ms)
        → cond b (Some m) (row name_of name ms) ≡ option_map {U = Text × Value} (λ v. (name, v)) (cond b (Some m.1) (entry name ms))
    by true h more = ap {B = Option (Text × Value)} (λ n. Some (n, m.1)) (sym (same_text_is name m.0 h))
    by false h more = more

pub row-in : {X : Type 0} (key : X → Text) (name : Text) (xs : List X) (x : X) → row key name xs ≡ Some x → IsIn x xs
row-in key name [] x e = cc
row-in {X} key name (y ∷ ys) x e = by (same_text name (key y)) e (row-in key name ys x)
  where
    by : (b : Bool) → cond b (Some y) (row key name ys) ≡ Some x → (row key name ys ≡ Some x → IsIn x ys) → IsIn x (y ∷ ys)
    by true h more = inl (cc)
    by false h more = inr (more h)

pub row-key : {X : Type 0} (key : X → Text) (name : Text) (xs : List X) (x : X) → row key name xs ≡ Some x → name ≡ key x
row-key key name [] x e = cc
row-key {X} key name (y ∷ ys) x e = by (same_text name (key y)) refl e (row-key key name ys x)
  where
    by : (b : Bool) → same_text name (key y) ≡ b → cond b (Some y) (row key name ys) ≡ Some x → (row key name ys ≡ Some x → name ≡ key x) → name ≡ key x
    by true s h more = let same : y ≡ x = cc in same_text_is name (key y) s ∙ ap key same
    by false s h more = more h

-- ---- keys stand once
pub names_once : (ms : List (Text × Value)) → HasNamesInOrder ms → has_repeat same_text (map (λ (m : Text × Value). m.0) ms) ≡ false
names_once ms h =
    ascending_distinct (slice_cmp nat_cmp) same_text
    (λ a b e. ap (λ c. slice_cmp nat_cmp a c) (sym (same_text_is a b e)) ∙ tied_itself nat_list_cmp_total a)
    (map (λ (m : Text × Value). m.0) ms) h

later_decimal : (i n : ℕ) (us : List Value) → i < n → n + length us ≤ 2 ^ 64 → list_any (same_text (decimal i)) (map (λ (e : ℕ × Value). decimal e.0) (enumerate_from n us)) ≡ false
later_decimal i n [] h k = refl
later_decimal i n (u ∷ us) h k =
    let here : same_text (decimal i) (decimal n) ≡ false = same_text_differs (decimal i) (decimal n) (λ e. let is : i ≡ n = decimal_injective i n (omega arith) (omega arith) e in omega arith) in
    ap₂ (λ a b. a || b) here (later_decimal i (n + 1) us (omega arith) (omega arith))

decimals_once : (n : ℕ) (us : List Value) → n + length us ≤ 2 ^ 64 → has_repeat same_text (map (λ (e : ℕ × Value). decimal e.0) (enumerate_from n us)) ≡ false
decimals_once n [] h = refl
decimals_once n (u ∷ us) h = ap₂ (λ a b. a || b) (later_decimal n (n + 1) us (omega arith) (omega arith)) (decimals_once (n + 1) us (omega arith))

row-decimal : (n j m : ℕ) (us : List Value) → m ≡ n + j → n + length us ≤ 2 ^ 64 → m < 2 ^ 64
    → row (λ (e : ℕ × Value). decimal e.0) (decimal m) (enumerate_from n us) ≡ option_map (λ u. (m, u)) (slice_get us j)
row-decimal n j m [] e h k = refl
row-decimal n zero m (u ∷ us) e h k = let is : m ≡ n = omega arith in rw (is, same_text_itself (decimal n)) refl
row-decimal n (suc j) m (u ∷ us) e h k =
    let other : same_text (decimal m) (decimal n) ≡ false = same_text_differs (decimal m) (decimal n) (λ f. let is : m ≡ n = decimal_injective m n k (omega arith) f in omega arith) in
    rw other (row-decimal (n + 1) j m us (omega arith) (omega arith) k)

row-no_index : (t : Text) (n m : ℕ) (us : List Value) → ((i : ℕ) → i < m → decimal i ≢ t) → n + length us ≤ m
    → row (λ (e : ℕ × Value). decimal e.0) t (enumerate_from n us) ≡ None
row-no_index t n m [] h k = refl
row-no_index t n m (u ∷ us) h k =
    let other : same_text t (decimal n) ≡ false = same_text_differs t (decimal n) (λ f. h n (omega arith) (sym f)) in
    rw other (row-no_index t (n + 1) m us h (omega arith))

-- ---- from a schema to where a keyword of it leads
at_member : (k : Text) (rest : Pointer) (s : Schema) (v : Value) → HasNamesInOrder (members s.value) → row name_of k (members s.value) ≡ Some (k, v)
    → schema_at_pointer (k ∷ rest) s ≡ look rest (inner (nesting s.value) s k v (shape_in keywords k))
at_member k rest s v ordered e =
    looked k rest s
    ∙ look_keyed-some (λ (m : Text × Value). m.0) (λ m. inner (nesting s.value) s m.0 m.1 (shape_in keywords m.0)) k rest (members s.value) (k, v) (names_once (members s.value) ordered) e

further : (rest : Pointer) (s : Schema) (way : Pointer) (u : Value) → nesting u < nesting s.value
    → look rest (schemas_within keywords (nesting s.value) [] (below s way u)) ≡ schema_at_pointer rest (below s way u)
further rest s way u h =
    let is : nesting (below s way u).value ≡ nesting u = ap nesting (value-below s way u) in
    ap (look rest) (within_levels keywords (nesting s.value) (suc (nesting (below s way u).value)) [] (below s way u) (omega arith) (omega arith))

stands_below : (s : Schema) (k : Text) (v : Value) (rest : Pointer) (part : Value) → IsIn (k, v) (members s.value) → IsIn (rest, part) (places v (shape_in keywords k))
    → Contains (subschemas_by keywords s) (k ∷ rest, below s (k ∷ rest) part)
stands_below s k v rest part i j =
    contains_from_in (subschemas_by keywords s) (k ∷ rest, below s (k ∷ rest) part)
    (step_to keywords s (below s (k ∷ rest) part) (k ∷ rest) (record { name = k; value = v; rest = rest; part = part; inside = i; place = j; way_is = refl; is = refl }))

held_in : (v u w : Value) (k : Text) → u ≡ v → IsHeld v k w → IsHeld u k w
held_in v u w k e h = subst (λ x. IsHeld x k w) (sym e) h

held_nests : (v w : Value) (k : Text) → IsHeld v k w → nesting w < nesting v
held_nests v w k h = members_nest v k w (row-in name_of k (members v) (k, w) h.found)

at_shape : (k : Text) (rest : Pointer) (s : Schema) (w : Value) (shape : Shape) → IsHeld s.value k w → shape_in keywords k ≡ shape
    → pointed_schema (k ∷ rest) s ≡ look rest (inner (nesting s.value) s k w shape)
unfolding pointed_schema
at_shape k rest s w shape h e = at_member k rest s w h.ordered h.found ∙ ap (λ x. look rest (inner (nesting s.value) s k w x)) e

further_led : (rest : Pointer) (s : Schema) (way : Pointer) (u : Value) → nesting u < nesting s.value
    → look rest (schemas_within keywords (nesting s.value) [] (below s way u)) ≡ pointed_schema rest (below s way u)
unfolding pointed_schema
further_led rest s way u h = further rest s way u h

held_stands : (s : Schema) (k : Text) (w : Value) (shape : Shape) (rest : Pointer) (part : Value) → IsHeld s.value k w → shape_in keywords k ≡ shape → IsIn (rest, part) (places w shape)
    → Contains (subschemas_by keywords s) (k ∷ rest, below s (k ∷ rest) part)
held_stands s k w shape rest part h e i =
    stands_below s k w rest part (row-in name_of k (members s.value) (k, w) h.found) (subst (λ x. IsIn (rest, part) (places w x)) (sym e) i)

-- ---- one schema
pub to_one : (k : Text) (rest : Pointer) (v w : Value) → IsHeld v k w → shape_in keywords k ≡ one_schema → StepsTo (k ∷ rest) v (k ∷ []) w rest
to_one k rest v w h e = record {
  begins = refl;
  stands = λ s is. held_stands s k w one_schema [] w (held_in v s.value w k is h) e (inl refl);
  leads = λ s is.
      let g : IsHeld s.value k w = held_in v s.value w k is h in
      at_shape k rest s w one_schema g e ∙ further_led rest s (k ∷ []) w (held_nests s.value w k g);
}

-- ---- a list of schemas
element_at : (i n m : ℕ) (us : List Value) (u : Value) → m ≡ n + i → slice_get us i ≡ Some u → IsIn (m, u) (enumerate_from n us)
element_at i n m [] u e h = cc
element_at zero n m (x ∷ us) u e h = let is : n ≡ m = omega arith in let same : x ≡ u = cc in inl (ap₂ (λ a b. (a, b)) is same)
element_at (suc i) n m (x ∷ us) u e h = inr (element_at i (n + 1) m us u (omega arith) h)

element_in : (i : ℕ) (us : List Value) (u : Value) → slice_get us i ≡ Some u → IsIn u us
element_in i [] u h = cc
element_in zero (x ∷ us) u h = inl (cc)
element_in (suc i) (x ∷ us) u h = inr (element_in i us u h)

pub to_element : (k : Text) (i : ℕ) (rest : Pointer) (v w u : Value) → IsHeld v k w → shape_in keywords k ≡ schema_list → length (elements w) ≤ 2 ^ 64 → i < 2 ^ 64
    → slice_get (elements w) i ≡ Some u → StepsTo (k ∷ decimal i ∷ rest) v (k ∷ decimal i ∷ []) u rest
to_element k i rest v w u h e short less at = record {
  begins = refl;
  stands = λ s is. held_stands s k w schema_list (decimal i ∷ []) u (held_in v s.value w k is h) e
      (into_map (λ (x : ℕ × Value). (decimal x.0 ∷ [], x.1)) (enumerate_from 0 (elements w)) (i, u) (element_at i 0 i (elements w) u (omega arith) at));
  leads = λ s is.
      let g : IsHeld s.value k w = held_in v s.value w k is h in
      let n : ℕ = nesting s.value in
      let one : row (λ (x : ℕ × Value). decimal x.0) (decimal i) (enumerate_from 0 (elements w)) ≡ Some (i, u) =
      row-decimal 0 i i (elements w) (omega arith) (omega arith) less ∙ ap (option_map (λ x. (i, x))) at in
      let nests : nesting u < nesting s.value = omega (arith, elements_nest w u (element_in i (elements w) u at), held_nests s.value w k g) in
      at_shape k (decimal i ∷ rest) s w schema_list g e
      ∙ look_keyed-some (λ (x : ℕ × Value). decimal x.0) (λ x. schemas_within keywords n [] (below s (k ∷ decimal x.0 ∷ []) x.1)) (decimal i) rest (enumerate_from 0 (elements w)) (i, u) (decimals_once 0 (elements w) (omega arith)) one
      ∙ further_led rest s (k ∷ decimal i ∷ []) u nests;
}

-- ---- a map of schemas
pub to_entry : (k t : Text) (rest : Pointer) (v w u : Value) → IsHeld v k w → shape_in keywords k ≡ schema_map → IsHeld w t u → StepsTo (k ∷ t ∷ rest) v (k ∷ t ∷ []) u rest
to_entry k t rest v w u h e at = record {
  begins = refl;
  stands = λ s is. held_stands s k w schema_map (t ∷ []) u (held_in v s.value w k is h) e
      (into_map (λ (x : Text × Value). (x.0 ∷ [], x.1)) (members w) (t, u) (row-in name_of t (members w) (t, u) at.found));
  leads = λ s is.
      let g : IsHeld s.value k w = held_in v s.value w k is h in
      let n : ℕ = nesting s.value in
      let nests : nesting u < nesting s.value = omega (arith, held_nests w u t at, held_nests s.value w k g) in
      at_shape k (t ∷ rest) s w schema_map g e
      ∙ look_keyed-some (λ (x : Text × Value). x.0) (λ x. schemas_within keywords n [] (below s (k ∷ x.0 ∷ []) x.1)) t rest (members w) (t, u) (names_once (members w) at.ordered) at.found
      ∙ further_led rest s (k ∷ t ∷ []) u nests;
}

-- ---- nowhere
pub from_no_member : (k : Text) (rest : Pointer) (v : Value) → row name_of k (members v) ≡ None → LeadsNowhere (k ∷ rest) v
unfolding pointed_schema
from_no_member k rest v h s is =
    looked k rest s
    ∙ look_keyed-none (λ (m : Text × Value). m.0) (λ m. inner (nesting s.value) s m.0 m.1 (shape_in keywords m.0)) k rest (members s.value) (ap (λ x. row name_of k (members x)) is ∙ h)

pub from_no_index : (k t : Text) (rest : Pointer) (v w : Value) → IsHeld v k w → shape_in keywords k ≡ schema_list → ((i : ℕ) → i < length (elements w) → decimal i ≢ t)
    → LeadsNowhere (k ∷ t ∷ rest) v
from_no_index k t rest v w h e none s is =
    at_shape k (t ∷ rest) s w schema_list (held_in v s.value w k is h) e
    ∙ look_keyed-none (λ (x : ℕ × Value). decimal x.0) (λ x. schemas_within keywords (nesting s.value) [] (below s (k ∷ decimal x.0 ∷ []) x.1)) t rest (enumerate_from 0 (elements w)) (row-no_index t 0 (length (elements w)) (elements w) none (omega arith))

pub from_no_entry : (k t : Text) (rest : Pointer) (v w : Value) → IsHeld v k w → shape_in keywords k ≡ schema_map → row name_of t (members w) ≡ None → LeadsNowhere (k ∷ t ∷ rest) v
from_no_entry k t rest v w h e none s is =
    at_shape k (t ∷ rest) s w schema_map (held_in v s.value w k is h) e
    ∙ look_keyed-none (λ (x : Text × Value). x.0) (λ x. schemas_within keywords (nesting s.value) [] (below s (k ∷ x.0 ∷ []) x.1)) t rest (members w) none

pub from_list_itself : (k : Text) (v w : Value) → IsHeld v k w → shape_in keywords k ≡ schema_list → LeadsNowhere (k ∷ []) v
from_list_itself k v w h e s is =
    at_shape k [] s w schema_list (held_in v s.value w k is h) e
    ∙ look_keyed-empty (λ (x : ℕ × Value). decimal x.0) (λ x. schemas_within keywords (nesting s.value) [] (below s (k ∷ decimal x.0 ∷ []) x.1)) (enumerate_from 0 (elements w))

pub from_map_itself : (k : Text) (v w : Value) → IsHeld v k w → shape_in keywords k ≡ schema_map → LeadsNowhere (k ∷ []) v
from_map_itself k v w h e s is =
    at_shape k [] s w schema_map (held_in v s.value w k is h) e
    ∙ look_keyed-empty (λ (x : Text × Value). x.0) (λ x. schemas_within keywords (nesting s.value) [] (below s (k ∷ x.0 ∷ []) x.1)) (members w)

pub from_other : (k : Text) (rest : Pointer) (v w : Value) → IsHeld v k w → schema_shape (shape_in keywords k) ≡ None → LeadsNowhere (k ∷ rest) v
from_other k rest v w h e s is = at_shape k rest s w (shape_in keywords k) (held_in v s.value w k is h) refl ∙ by (shape_in keywords k) e
  where
    by : (shape : Shape) → schema_shape shape ≡ None → look rest (inner (nesting s.value) s k w shape) ≡ None
    by one_schema f = cc
    by schema_list f = cc
    by schema_map f = cc
    by _ f = refl

-- ---- where the tokens of a pointer are at their end, and where a keyword's value has another shape
pub from_no_list : (k : Text) (rest : Pointer) (v w : Value) → IsHeld v k w → shape_in keywords k ≡ schema_list → elements w ≡ [] → LeadsNowhere (k ∷ rest) v
from_no_list k rest v w h e none s is =
    at_shape k rest s w schema_list (held_in v s.value w k is h) e
    ∙ ap (λ xs. look rest (keyed (λ (x : ℕ × Value). decimal x.0) (λ x. schemas_within keywords (nesting s.value) [] (below s (k ∷ decimal x.0 ∷ []) x.1)) (enumerate_from 0 xs))) none

pub from_no_map : (k : Text) (rest : Pointer) (v w : Value) → IsHeld v k w → shape_in keywords k ≡ schema_map → members w ≡ [] → LeadsNowhere (k ∷ rest) v
from_no_map k rest v w h e none s is =
    at_shape k rest s w schema_map (held_in v s.value w k is h) e
    ∙ ap (λ xs. look rest (keyed (λ (x : Text × Value). x.0) (λ x. schemas_within keywords (nesting s.value) [] (below s (k ∷ x.0 ∷ []) x.1)) xs)) none

pub holds_none : (s : asked.Shape) → (s ≡ OneSchema → ⊥) → (s ≡ SchemaList → ⊥) → (s ≡ SchemaMap → ⊥) → schema_shape (shape_view s) ≡ None
holds_none OneSchema one all each = absurd (one refl)
holds_none SchemaList one all each = absurd (all refl)
holds_none SchemaMap one all each = absurd (each refl)
holds_none _ one all each = refl

pub pointed_here : (s : Schema) → pointed_schema [] s ≡ Some s
unfolding pointed_schema
pointed_here s = refl

pub shorter : {A B : Type 0} (f : A → Text) (g : B → Text) (k t : Text) (ts : Pointer) (xs : List A) (ys : List B) → k ∷ map f xs ≡ (t ∷ ts) ++ map g ys → length ys ≤ length xs
shorter f g k t ts xs ys e =
    omega (arith, ap length e, length-append ts (map g ys), length-map xs f, length-map ys g)
