-- The schemas directly below one, and those below at any depth, by the tokens that lead to them.
use Rattle.std.proofs.Common.{◌≡◌, ◌<◌, ◌^◌, List, [], ◌∷◌, ◌++◌, map, length, true, Option, Some, None, decimal, nat_cmp, Less, Greater, refl, sym, ap, ap₂, subst, ◌∙◌, arith, inl, inr, append_assoc, append-nil}
use Rattle.std.proofs.lemmas.Bool.{and_parts, ltb-true}
use Rattle.std.proofs.lemmas.Cmp.{nat_list_cmp_total}
use Rattle.std.proofs.lemmas.Fmt.{decimal_injective}
use Rattle.std.proofs.lemmas.List.{append_cancel_left}
use Rattle.std.specs.Cmp.Lexicographic.{slice_cmp}
use Rattle.std.specs.List.{enumerate_from}
use Rattle.std.specs.Ordering.{ordering_reverse}
use Rattle.definitions.specs.Values.{Text, Value, null, boolean, integer, string, array, object, Elements, no_elements, element, Members, no_members, member, elements_list, members_list, elements, members, is_well_formed, are_well_formed, are_well_formed_members, is_before}
use Rattle.definitions.specs.Pointers.{Pointer}
use Rattle.definitions.specs.Shapes.{Shape, one_schema, schema_list, schema_map}
use Rattle.definitions.specs.Keywords.{Keyword, shape_in}
use Rattle.definitions.specs.Schemas.{Schema, opened_schema, below, at_place, subschemas_by}
use Rattle.lemmas.proofs.Orders.{is_less}
use Rattle.lemmas.proofs.Members.{member_parts}
use Rattle.definition_laws.specs.Identities.{has_short_arrays, have_short_arrays, members_have_short_arrays, IsDefinite}
use Rattle.definition_laws.proofs.Occurrences.{IsIn, in_flat_map, into_flat_map, in_map, into_map, numbered_within, numbered_once, numbered_in}

-- ---- the value of a schema
pub value-opened : (base : Text) (p : Pointer) (v : Value) (id : Option Text) → (opened_schema base p v id).value ≡ v
value-opened base p v None = refl
value-opened base p v (Some id) = refl

pub value-below : (s : Schema) (way : Pointer) (v : Value) → (below s way v).value ≡ v
value-below s way v = value-opened s.resource (s.pointer ++ way) v _

-- ---- what a definite value has is definite
definite_element : (vs : Elements) (v : Value) → are_well_formed vs ≡ true → have_short_arrays vs ≡ true → IsIn v (elements_list vs) → IsDefinite v
definite_element no_elements v h k i = absurd i
definite_element (element u us) v h k (inl e) =
    let p = and_parts (is_well_formed u) (are_well_formed us) h in
    let q = and_parts (has_short_arrays u) (have_short_arrays us) k in
    subst IsDefinite e (record { well_formed = p.0; short_arrays = q.0 })
definite_element (element u us) v h k (inr i) =
    let p = and_parts (is_well_formed u) (are_well_formed us) h in
    let q = and_parts (has_short_arrays u) (have_short_arrays us) k in
    definite_element us v p.1 q.1 i

definite_member : (ms : Members) (n : Text) (v : Value) → are_well_formed_members ms ≡ true → members_have_short_arrays ms ≡ true → IsIn (n, v) (members_list ms) → IsDefinite v
definite_member no_members n v h k i = absurd i
definite_member (member m u ms) n v h k (inl e) =
    let p = member_parts m u ms h in
    let q = and_parts (has_short_arrays u) (members_have_short_arrays ms) k in
    subst IsDefinite (ap (λ x. x.1) e) (record { well_formed = p.1; short_arrays = q.0 })
definite_member (member m u ms) n v h k (inr i) =
    let p = member_parts m u ms h in
    let q = and_parts (has_short_arrays u) (members_have_short_arrays ms) k in
    definite_member ms n v p.2 q.1 i

pub definite_elements : (v u : Value) → IsDefinite v → IsIn u (elements v) → IsDefinite u
definite_elements null u d i = absurd i
definite_elements (boolean b) u d i = absurd i
definite_elements (integer z) u d i = absurd i
definite_elements (string s) u d i = absurd i
definite_elements (array vs) u d i = definite_element vs u d.well_formed (and_parts _ _ d.short_arrays).1 i
definite_elements (object ms) u d i = absurd i

pub definite_members : (v : Value) (n : Text) (u : Value) → IsDefinite v → IsIn (n, u) (members v) → IsDefinite u
definite_members null n u d i = absurd i
definite_members (boolean b) n u d i = absurd i
definite_members (integer z) n u d i = absurd i
definite_members (string s) n u d i = absurd i
definite_members (array vs) n u d i = absurd i
definite_members (object ms) n u d i = definite_member ms n u d.well_formed d.short_arrays i

pub short_array : (v : Value) → IsDefinite v → length (elements v) < 2 ^ 64
short_array null d = omega arith
short_array (boolean b) d = omega arith
short_array (integer z) d = omega arith
short_array (string s) d = omega arith
short_array (array vs) d = ltb-true (length (elements_list vs)) (2 ^ 64) (and_parts _ _ d.short_arrays).0
short_array (object ms) d = omega arith

-- ---- a name stands once
not_before_itself : (n : Text) → slice_cmp nat_cmp n n ≡ Less → ⊥
not_before_itself n h = let other : Less ≡ Greater = sym h ∙ (nat_list_cmp_total.antisymm n n ∙ ap ordering_reverse h) in cc

pub before_all : (n : Text) (ms : Members) (m : Text) (v : Value) → is_before n ms ≡ true → are_well_formed_members ms ≡ true → IsIn (m, v) (members_list ms) → slice_cmp nat_cmp n m ≡ Less
before_all n no_members m v b h i = absurd i
before_all n (member k u ms) m v b h (inl e) = rw (← ap (λ x. x.0) e) (is_less _ b)
before_all n (member k u ms) m v b h (inr i) =
    let p = member_parts k u ms h in
    nat_list_cmp_total.trans n k m (is_less _ b) (before_all k ms m v p.0 p.2 i)

member_once : (ms : Members) (n : Text) (u v : Value) → are_well_formed_members ms ≡ true → IsIn (n, u) (members_list ms) → IsIn (n, v) (members_list ms) → u ≡ v
member_once no_members n u v h i j = absurd i
member_once (member k w ms) n u v h (inl e) (inl f) = sym (ap (λ x. x.1) e) ∙ ap (λ x. x.1) f
member_once (member k w ms) n u v h (inl e) (inr j) =
    let p = member_parts k w ms h in
    let same : k ≡ n = ap (λ x. x.0) e in
    absurd (not_before_itself n (subst (λ x. slice_cmp nat_cmp x n ≡ Less) same (before_all k ms n v p.0 p.2 j)))
member_once (member k w ms) n u v h (inr i) (inl f) =
    let p = member_parts k w ms h in
    let same : k ≡ n = ap (λ x. x.0) f in
    absurd (not_before_itself n (subst (λ x. slice_cmp nat_cmp x n ≡ Less) same (before_all k ms n u p.0 p.2 i)))
member_once (member k w ms) n u v h (inr i) (inr j) = member_once ms n u v (member_parts k w ms h).2 i j

pub members_once : (v : Value) (n : Text) (u w : Value) → IsDefinite v → IsIn (n, u) (members v) → IsIn (n, w) (members v) → u ≡ w
members_once null n u w d i j = absurd i
members_once (boolean b) n u w d i j = absurd i
members_once (integer z) n u w d i j = absurd i
members_once (string s) n u w d i j = absurd i
members_once (array vs) n u w d i j = absurd i
members_once (object ms) n u w d i j = member_once ms n u w d.well_formed i j

-- ---- the values that stand as schemas in a keyword's value, by the tokens below the keyword
abbrev pub places : Value → Shape → List (Pointer × Value)
places v one_schema = ([], v) ∷ []
places v schema_list = map (λ e. (decimal e.0 ∷ [], e.1)) (enumerate_from 0 (elements v))
places v schema_map = map (λ m. (m.0 ∷ [], m.1)) (members v)
places v _ = []

abbrev pub stepped : Schema → Text → Pointer × Value → Pointer × Schema
stepped s keyword e = (keyword ∷ e.0, below s (keyword ∷ e.0) e.1)

map-twice : {A B C : Type 0} (f : A → B) (g : B → C) (xs : List A) → map (λ x. g (f x)) xs ≡ map g (map f xs)
map-twice f g [] = refl
map-twice f g (x ∷ xs) = ap (λ ys. g (f x) ∷ ys) (map-twice f g xs)

pub at_place_is : (s : Schema) (keyword : Text) (v : Value) (shape : Shape) → at_place s keyword v shape ≡ map (stepped s keyword) (places v shape)
at_place_is s keyword v one_schema = refl
at_place_is s keyword v schema_list = map-twice (λ e. (decimal e.0 ∷ [], e.1)) (stepped s keyword) (enumerate_from 0 (elements v))
at_place_is s keyword v schema_map = map-twice (λ m. (m.0 ∷ [], m.1)) (stepped s keyword) (members v)
at_place_is s keyword v _ = refl

pub definite_places : (v : Value) (shape : Shape) (way : Pointer) (u : Value) → IsDefinite v → IsIn (way, u) (places v shape) → IsDefinite u
definite_places v one_schema way u d (inl e) = subst IsDefinite (ap (λ x. x.1) e) d
definite_places v one_schema way u d (inr i) = absurd i
definite_places v schema_list way u d i =
    let r = in_map _ _ _ i in
    definite_elements v u d (numbered_in 0 (elements v) (r.0).0 u (subst (λ x. IsIn ((r.0).0, x) (enumerate_from 0 (elements v))) (ap (λ x. x.1) r.2) r.1))
definite_places v schema_map way u d i =
    let r = in_map _ _ _ i in
    definite_members v (r.0).0 u d (subst (λ x. IsIn ((r.0).0, x) (members v)) (ap (λ x. x.1) r.2) r.1)
definite_places v _ way u d i = absurd i

place_once : (v : Value) (shape : Shape) (way other : Pointer) (u w : Value) (p q : Pointer) → IsDefinite v → IsIn (way, u) (places v shape) → IsIn (other, w) (places v shape)
    → way ++ p ≡ other ++ q → (way ≡ other) × (u ≡ w)
place_once v one_schema way other u w p q d (inl e) (inl f) k = (sym (ap (λ x. x.0) e) ∙ ap (λ x. x.0) f, sym (ap (λ x. x.1) e) ∙ ap (λ x. x.1) f)
place_once v one_schema way other u w p q d (inl e) (inr j) k = absurd j
place_once v one_schema way other u w p q d (inr i) j k = absurd i
place_once v schema_list way other u w p q d i j k =
    let r = in_map _ _ _ i in
    let t = in_map _ _ _ j in
    let a : IsIn ((r.0).0, u) (enumerate_from 0 (elements v)) = subst (λ x. IsIn ((r.0).0, x) (enumerate_from 0 (elements v))) (ap (λ x. x.1) r.2) r.1 in
    let b : IsIn ((t.0).0, w) (enumerate_from 0 (elements v)) = subst (λ x. IsIn ((t.0).0, x) (enumerate_from 0 (elements v))) (ap (λ x. x.1) t.2) t.1 in
    let first : decimal (r.0).0 ∷ [] ≡ way = ap (λ x. x.0) r.2 in
    let second : decimal (t.0).0 ∷ [] ≡ other = ap (λ x. x.0) t.2 in
    let joined : decimal (r.0).0 ∷ p ≡ decimal (t.0).0 ∷ q = ap (λ x. x ++ p) first ∙ k ∙ ap (λ x. x ++ q) (sym second) in
    let texts : decimal (r.0).0 ≡ decimal (t.0).0 = cc in
    let short = short_array v d in
    let m = numbered_within 0 (elements v) (r.0).0 u a in
    let n = numbered_within 0 (elements v) (t.0).0 w b in
    let numbers : (r.0).0 ≡ (t.0).0 = decimal_injective (r.0).0 (t.0).0 (omega (arith, short, m.1)) (omega (arith, short, n.1)) texts in (
      sym first ∙ ap (λ x. decimal x ∷ []) numbers ∙ second,
      numbered_once 0 (elements v) (t.0).0 u w (subst (λ x. IsIn (x, u) (enumerate_from 0 (elements v))) numbers a) b,
    )
place_once v schema_map way other u w p q d i j k =
    let r = in_map _ _ _ i in
    let t = in_map _ _ _ j in
    let a : IsIn ((r.0).0, u) (members v) = subst (λ x. IsIn ((r.0).0, x) (members v)) (ap (λ x. x.1) r.2) r.1 in
    let b : IsIn ((t.0).0, w) (members v) = subst (λ x. IsIn ((t.0).0, x) (members v)) (ap (λ x. x.1) t.2) t.1 in
    let first : (r.0).0 ∷ [] ≡ way = ap (λ x. x.0) r.2 in
    let second : (t.0).0 ∷ [] ≡ other = ap (λ x. x.0) t.2 in
    let joined : (r.0).0 ∷ p ≡ (t.0).0 ∷ q = ap (λ x. x ++ p) first ∙ k ∙ ap (λ x. x ++ q) (sym second) in
    let names : (r.0).0 ≡ (t.0).0 = cc in (
      sym first ∙ ap (λ x. x ∷ []) names ∙ second,
      members_once v (t.0).0 u w d (subst (λ x. IsIn (x, u) (members v)) names a) b,
    )
place_once v _ way other u w p q d i j k = absurd i

-- ---- one step down
pub record IsStep (rows : List Keyword) (s t : Schema) (way : Pointer) : Type 0 where
  pub name : Text
  pub value : Value
  pub rest : Pointer
  pub part : Value
  pub inside : IsIn (name, value) (members s.value)
  pub place : IsIn (rest, part) (places value (shape_in rows name))
  pub way_is : way ≡ name ∷ rest
  pub is : t ≡ below s way part

pub step_from : (rows : List Keyword) (s t : Schema) (way : Pointer) → IsIn (way, t) (subschemas_by rows s) → IsStep rows s t way
step_from rows s t way i =
    let r = in_flat_map (λ m. at_place s m.0 m.1 (shape_in rows m.0)) (members s.value) (way, t) i in
    let m : Text × Value = r.0 in
    let at : IsIn (way, t) (map (stepped s m.0) (places m.1 (shape_in rows m.0))) = subst (IsIn (way, t)) (at_place_is s m.0 m.1 (shape_in rows m.0)) r.2 in
    let q = in_map (stepped s m.0) (places m.1 (shape_in rows m.0)) (way, t) at in
    record {
      name = m.0;
      value = m.1;
      rest = (q.0).0;
      part = (q.0).1;
      inside = r.1;
      place = q.1;
      way_is = sym (ap (λ x. x.0) q.2);
      is = sym (ap (λ x. x.1) q.2) ∙ ap (λ w. below s w (q.0).1) (ap (λ x. x.0) q.2);
    }

pub step_to : (rows : List Keyword) (s t : Schema) (way : Pointer) → IsStep rows s t way → IsIn (way, t) (subschemas_by rows s)
step_to rows s t way h =
    let one : IsIn (stepped s h.name (h.rest, h.part)) (map (stepped s h.name) (places h.value (shape_in rows h.name))) =
    into_map (stepped s h.name) (places h.value (shape_in rows h.name)) (h.rest, h.part) h.place in
    let same : stepped s h.name (h.rest, h.part) ≡ (way, t) = ap₂ (λ x y. (x, y)) (sym h.way_is) (ap (λ w. below s w h.part) (sym h.way_is) ∙ sym h.is) in
    into_flat_map (λ m. at_place s m.0 m.1 (shape_in rows m.0)) (members s.value) (h.name, h.value) (way, t) h.inside
    (subst (λ x. x) (ap₂ (λ x y. IsIn x y) same (sym (at_place_is s h.name h.value (shape_in rows h.name)))) one)

pub step_definite : (rows : List Keyword) (s t : Schema) (way : Pointer) → IsStep rows s t way → IsDefinite s.value → IsDefinite t.value
step_definite rows s t way h d =
    let value_is : t.value ≡ h.part = ap (λ x. x.value) h.is ∙ value-below s way h.part in
    subst IsDefinite (sym value_is) (definite_places h.value (shape_in rows h.name) h.rest h.part (definite_members s.value h.name h.value d h.inside) h.place)

pub step_once : (rows : List Keyword) (s t u : Schema) (way other p q : Pointer) → IsStep rows s t way → IsStep rows s u other → IsDefinite s.value
    → way ++ p ≡ other ++ q → (way ≡ other) × (t ≡ u)
step_once rows s t u way other p q h k d e =
    let joined : h.name ∷ (h.rest ++ p) ≡ k.name ∷ (k.rest ++ q) = ap (λ x. x ++ p) (sym h.way_is) ∙ e ∙ ap (λ x. x ++ q) k.way_is in
    let names : h.name ≡ k.name = cc in
    let rests : h.rest ++ p ≡ k.rest ++ q = cc in
    let values : h.value ≡ k.value =
    members_once s.value k.name h.value k.value d (subst (λ n. IsIn (n, h.value) (members s.value)) names h.inside) k.inside in
    let place : IsIn (h.rest, h.part) (places k.value (shape_in rows k.name)) =
    subst (λ x. x) (ap₂ (λ n v. IsIn (h.rest, h.part) (places v (shape_in rows n))) names values) h.place in
    let r = place_once k.value (shape_in rows k.name) h.rest k.rest h.part k.part p q (definite_members s.value k.name k.value d k.inside) place k.place rests in
    let ways : way ≡ other = h.way_is ∙ ap₂ (λ n x. n ∷ x) names r.0 ∙ sym k.way_is in
    (ways, h.is ∙ ap₂ (below s) ways r.1 ∙ sym k.is)

-- ---- any number of steps
pub data IsBelow (rows : List Keyword) : Schema → Schema → Pointer → Type 0 where
  here : {s t : Schema} {way : Pointer} → s ≡ t → way ≡ [] → IsBelow rows s t way
  further : {s t u : Schema} {way rest whole : Pointer} → IsStep rows s t way → IsBelow rows t u rest → whole ≡ way ++ rest → IsBelow rows s u whole

pub below_once : (rows : List Keyword) (s t u : Schema) (way : Pointer) → IsBelow rows s t way → IsBelow rows s u way → IsDefinite s.value → t ≡ u
below_once rows s t u way (here e f) (here g h) d = sym e ∙ g
below_once rows s t u way (here e f) (further {way = first} {rest = rest} step more w) d =
    absurd (let no : [] ≡ step.name ∷ (step.rest ++ rest) = sym f ∙ w ∙ ap (λ x. x ++ rest) step.way_is in cc)
below_once rows s t u way (further {way = first} {rest = rest} step more w) (here e f) d =
    absurd (let no : [] ≡ step.name ∷ (step.rest ++ rest) = sym f ∙ w ∙ ap (λ x. x ++ rest) step.way_is in cc)
below_once rows s t u way (further {t = a} {way = first} {rest = rest} step more w) (further {t = b} {way = second} {rest = last} other later x) d =
    let r = step_once rows s a b first second rest last step other d (sym w ∙ x) in
    let rests : rest ≡ last = append_cancel_left first rest last (sym w ∙ x ∙ ap (λ y. y ++ last) (sym r.0)) in
    let moved : IsBelow rows a u rest = subst (λ y. y) (ap₂ (λ y z. IsBelow rows y u z) (sym r.1) (sym rests)) later in
    below_once rows a t u rest more moved (step_definite rows s a first step d)

pub below_more : (rows : List Keyword) (s t u : Schema) (way last : Pointer) → IsBelow rows s t way → IsStep rows t u last → IsBelow rows s u (way ++ last)
below_more rows s t u way last (here e f) step =
    further (subst (λ x. IsStep rows x u last) (sym e) step) (here refl refl) (ap (λ x. x ++ last) f ∙ sym (append-nil last))
below_more rows s t u way last (further {t = a} {way = first} {rest = rest} other more w) step =
    further other (below_more rows a t u rest last more step) (ap (λ x. x ++ last) w ∙ append_assoc first rest last)
