-- A walk finds no fault exactly where no keyword of any schema on it has one, however deep it goes.
use Rattle.std.proofs.Common.{◌≡◌, ◌<◌, ◌||◌, ℕ, zero, suc, List, [], ◌∷◌, ◌++◌, Bool, true, false, not, Option, Some, None, codes, refl, sym, ap, subst, ◌∙◌, arith, inl, inr}
use Rattle.std.specs.List.{flat_map, list_all}
use Rattle.definitions.specs.Values.{Text, Value, nesting, members, same_text}
use Rattle.definitions.specs.Faults.{Fault, bad_keyword, bad_id, dialect}
use Rattle.definitions.specs.Pointers.{Pointer, pointer_text}
use Rattle.definitions.specs.Shapes.{Shape, has_shape, is_anchor_name, identifier, anchor_name}
use Rattle.definitions.specs.Shapes as shapes
use Rattle.definitions.specs.Keywords.{Keyword, keywords, keyword_named}
use Rattle.definitions.specs.Schemas.{Schema, subschemas_by, is_root}
use Rattle.definitions.specs.Scanning.{is_id, is_dialect, shape_faults, keyword_faults, subtree_faults}
use Rattle.definitions.specs.Lists.{unless}
use Rattle.definition_laws.proofs.AcceptedDocuments.{neither, unless_none}
use Rattle.definition_laws.proofs.Occurrences.{IsIn, all_pass_in, found_in, found_passes}
use Rattle.definition_laws.proofs.Places.{IsStep, step_from, step_to}
use Rattle.definition_laws.proofs.Roots.{step_nests}
use Rattle.lemmas.proofs.Texts.{same_text_is}

-- ---- lists of faults
none_at : {A B : Type 0} (f : A → List B) (xs : List A) → flat_map f xs ≡ [] → (x : A) → IsIn x xs → f x ≡ []
none_at f [] e x i = absurd i
none_at f (y ∷ ys) e x (inl same) = ap f (sym same) ∙ (neither (f y) (flat_map f ys) e).0
none_at f (y ∷ ys) e x (inr i) = none_at f ys (neither (f y) (flat_map f ys) e).1 x i

none_in : {A B : Type 0} (f : A → List B) (xs : List A) → ((x : A) → IsIn x xs → f x ≡ []) → flat_map f xs ≡ []
none_in f [] h = refl
none_in f (y ∷ ys) h = rw (h y (inl refl), none_in f ys (λ x i. h x (inr i))) refl

pub all_from : {A : Type 0} (p : A → Bool) (xs : List A) → ((x : A) → IsIn x xs → p x ≡ true) → list_all p xs ≡ true
all_from p [] h = refl
all_from p (x ∷ xs) h = rw (h x (inl refl), all_from p xs (λ y i. h y (inr i))) refl

pub unless_true : (b : Bool) (f : Fault) → b ≡ true → unless b f ≡ []
unless_true b f e = rw e refl

-- ---- a keyword's faults hang on its value, on whether it stands at a root, and for `$id` on the base
pub moved_faults : (shape : Shape) (base other : Text) (way far : Pointer) (s t : Schema) (v : Value) → (shape ≡ identifier → is_id other v ≡ true) → is_root t ≡ is_root s
    → shape_faults shape base way s v ≡ [] → shape_faults shape other far t v ≡ []
moved_faults identifier base other way far s t v id root h = unless_true (is_id other v) bad_id (id refl)
moved_faults anchor_name base other way far s t v id root h = h
moved_faults shapes.dialect base other way far s t v id root h =
    unless_true (is_dialect v || not (is_root t)) dialect (ap (λ r. is_dialect v || not r) root ∙ unless_none (is_dialect v || not (is_root s)) dialect h)
moved_faults shape base other way far s t v id root h =
    unless_true (has_shape shape v) (bad_keyword (pointer_text far)) (unless_none (has_shape shape v) (bad_keyword (pointer_text way)) h)

own_id : (shape : Shape) (base : Text) (way : Pointer) (s : Schema) (v : Value) → shape_faults shape base way s v ≡ [] → shape ≡ identifier → is_id base v ≡ true
own_id shape base way s v h e = unless_none (is_id base v) bad_id (subst (λ x. shape_faults x base way s v ≡ []) e h)

-- elsewhere, by the same base
pub under_base : (o : Option Keyword) (base : Text) (way far : Pointer) (s t : Schema) (v : Value) → is_root t ≡ is_root s
    → keyword_faults o base way s v ≡ [] → keyword_faults o base far t v ≡ []
under_base None base way far s t v root h = refl
under_base (Some k) base way far s t v root h = moved_faults k.shape base base way far s t v (own_id k.shape base way s v h) root h

-- by another base, where the keyword isn't `$id`
pub under_other : (o : Option Keyword) (base other : Text) (way far : Pointer) (s t : Schema) (v : Value) → ((k : Keyword) → o ≡ Some k → k.shape ≡ identifier → ⊥) → is_root t ≡ is_root s
    → keyword_faults o base way s v ≡ [] → keyword_faults o other far t v ≡ []
under_other None base other way far s t v apart root h = refl
under_other (Some k) base other way far s t v apart root h = moved_faults k.shape base other way far s t v (λ e. absurd (apart k refl e)) root h

is_identifier_shape : Shape → Bool
is_identifier_shape identifier = true
is_identifier_shape _ = false

is_id_row : Keyword → Bool
is_id_row k = not (is_identifier_shape k.shape) || same_text k.name (codes "$id")

id_rows : list_all is_id_row keywords ≡ true
unfolding is_id_row is_identifier_shape
id_rows = refl

id_by : (k : Keyword) → is_id_row k ≡ true → k.shape ≡ identifier → k.name ≡ codes "$id"
unfolding is_id_row is_identifier_shape
id_by k h e = same_text_is k.name (codes "$id") (subst (λ s. (not (is_identifier_shape s) || same_text k.name (codes "$id")) ≡ true) e h)

-- `$id` alone has the shape of an identifier
pub id_alone : (n : Text) (k : Keyword) → keyword_named n keywords ≡ Some k → k.shape ≡ identifier → n ≡ codes "$id"
id_alone n k e h =
    same_text_is n k.name (found_passes (λ r. same_text n r.name) keywords k e)
    ∙ id_by k (all_pass_in is_id_row keywords k id_rows (found_in (λ r. same_text n r.name) keywords k e)) h

-- ---- a schema without a fault, so many levels down
abbrev pub HasNoFault : Text → Schema → Type 0
HasNoFault base s = (n : Text) (x : Value) → IsIn (n, x) (members s.value) → (far : Pointer) → keyword_faults (keyword_named n keywords) base far s x ≡ []

abbrev pub IsFaultless : ℕ → Text → Schema → Type 0
IsFaultless zero base s = Unit {0}
IsFaultless (suc n) base s = HasNoFault base s × ((t : Schema) (way : Pointer) → IsStep keywords s t way → IsFaultless n s.resource t)

pub faultless_from : (n : ℕ) (base : Text) (way : Pointer) (s : Schema) → subtree_faults n base way s ≡ [] → IsFaultless n base s
faultless_from zero base way s h = tt
faultless_from (suc n) base way s h =
    let p = neither (flat_map (λ m. keyword_faults (keyword_named m.0 keywords) base (way ++ m.0 ∷ []) s m.1) (members s.value))
    (flat_map (λ t. subtree_faults n s.resource (way ++ t.0) t.1) (subschemas_by keywords s)) h in (
      λ m x i far. under_base (keyword_named m keywords) base (way ++ m ∷ []) far s s x refl
          (none_at (λ e. keyword_faults (keyword_named e.0 keywords) base (way ++ e.0 ∷ []) s e.1) (members s.value) p.0 (m, x) i),
      λ t first step. faultless_from n s.resource (way ++ first) t
          (none_at (λ u. subtree_faults n s.resource (way ++ u.0) u.1) (subschemas_by keywords s) p.1 (first, t) (step_to keywords s t first step)),
    )

pub walked_faultless : (n : ℕ) (base : Text) (way : Pointer) (s : Schema) → IsFaultless n base s → subtree_faults n base way s ≡ []
walked_faultless zero base way s h = refl
walked_faultless (suc n) base way s h =
    let own : flat_map (λ m. keyword_faults (keyword_named m.0 keywords) base (way ++ m.0 ∷ []) s m.1) (members s.value) ≡ [] =
    none_in (λ m. keyword_faults (keyword_named m.0 keywords) base (way ++ m.0 ∷ []) s m.1) (members s.value) (λ m i. h.0 m.0 m.1 i (way ++ m.0 ∷ [])) in
    let deeper : flat_map (λ t. subtree_faults n s.resource (way ++ t.0) t.1) (subschemas_by keywords s) ≡ [] =
    none_in (λ t. subtree_faults n s.resource (way ++ t.0) t.1) (subschemas_by keywords s) (λ t i. walked_faultless n s.resource (way ++ t.0) t.1 (h.1 t.1 t.0 (step_from keywords s t.1 t.0 i))) in
    rw (own, deeper) refl

-- what has no fault down to its last level has none so many levels down
pub faultless_deeper : (n m : ℕ) (base : Text) (s : Schema) → nesting s.value < n → IsFaultless n base s → IsFaultless m base s
faultless_deeper n zero base s l h = tt
faultless_deeper zero (suc m) base s l h = absurd (omega arith)
faultless_deeper (suc n) (suc m) base s l h = (h.0, λ t way step. faultless_deeper n m s.resource t (omega (arith, step_nests keywords s t way step)) (h.1 t way step))
