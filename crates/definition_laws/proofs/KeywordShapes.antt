-- One step down by a keyword's shape, and the shape that its meaning applies by.
use Rattle.std.proofs.Common.{◌≡◌, ℕ, [], ◌∷◌, Bool, true, false, decimal, codes, refl, sym, subst, inl}
use Rattle.std.specs.List.{enumerate_from}
use Rattle.definitions.specs.Values.{Text, Value, same_text, elements, members}
use Rattle.definitions.specs.Shapes.{Shape, one_schema, schema_list, schema_map}
use Rattle.definitions.specs.Keywords.{keywords, shape_in, Meaning, refers, refers_dynamically, all_of, any_of, one_of, negation, condition, consequence, dependent_schemas, prefix_items, items, contains, properties, pattern_properties, additional_properties, property_names, unevaluated_items, unevaluated_properties}
use Rattle.definitions.specs.Schemas.{Schema, below}
use Rattle.definition_laws.proofs.Occurrences.{IsIn, into_map}
use Rattle.definition_laws.proofs.Places.{IsStep, places}

-- ---- one step down by a keyword's shape
pub step_one : (s : Schema) (k : Text) (v : Value) → IsIn (k, v) (members s.value) → shape_in keywords k ≡ one_schema → IsStep keywords s (below s (k ∷ []) v) (k ∷ [])
step_one s k v i e = record {
  name = k;
  value = v;
  rest = [];
  part = v;
  inside = i;
  place = subst (λ shape. IsIn ([], v) (places v shape)) (sym e) (inl refl);
  way_is = refl;
  is = refl;
}

pub step_listed : (s : Schema) (k : Text) (v : Value) (e : ℕ × Value) → IsIn (k, v) (members s.value) → shape_in keywords k ≡ schema_list → IsIn e (enumerate_from 0 (elements v))
    → IsStep keywords s (below s (k ∷ decimal e.0 ∷ []) e.1) (k ∷ decimal e.0 ∷ [])
step_listed s k v e i h j = record {
  name = k;
  value = v;
  rest = decimal e.0 ∷ [];
  part = e.1;
  inside = i;
  place = subst (λ shape. IsIn (decimal e.0 ∷ [], e.1) (places v shape)) (sym h) (into_map (λ d. (decimal d.0 ∷ [], d.1)) (enumerate_from 0 (elements v)) e j);
  way_is = refl;
  is = refl;
}

pub step_named : (s : Schema) (k : Text) (v : Value) (m : Text × Value) → IsIn (k, v) (members s.value) → shape_in keywords k ≡ schema_map → IsIn m (members v)
    → IsStep keywords s (below s (k ∷ m.0 ∷ []) m.1) (k ∷ m.0 ∷ [])
step_named s k v m i h j = record {
  name = k;
  value = v;
  rest = m.0 ∷ [];
  part = m.1;
  inside = i;
  place = subst (λ shape. IsIn (m.0 ∷ [], m.1) (places v shape)) (sym h) (into_map (λ n. (n.0 ∷ [], n.1)) (members v) m j);
  way_is = refl;
  is = refl;
}

-- ---- whether the shape is the one that the meaning applies by
abbrev pub is_one : Shape → Bool
is_one one_schema = true
is_one _ = false

abbrev pub is_list : Shape → Bool
is_list schema_list = true
is_list _ = false

abbrev pub is_map : Shape → Bool
is_map schema_map = true
is_map _ = false

pub one_is : (shape : Shape) → is_one shape ≡ true → shape ≡ one_schema
one_is one_schema h = refl
one_is _ h = absurd (cc)

pub list_is : (shape : Shape) → is_list shape ≡ true → shape ≡ schema_list
list_is schema_list h = refl
list_is _ h = absurd (cc)

pub map_is : (shape : Shape) → is_map shape ≡ true → shape ≡ schema_map
map_is schema_map h = refl
map_is _ h = absurd (cc)

abbrev pub fits : Meaning → Text → Shape → Bool
fits refers k shape = same_text k (codes "$ref")
fits refers_dynamically k shape = same_text k (codes "$dynamicRef")
fits all_of k shape = is_list shape
fits any_of k shape = is_list shape
fits one_of k shape = is_list shape
fits prefix_items k shape = is_list shape
fits dependent_schemas k shape = is_map shape
fits properties k shape = is_map shape
fits pattern_properties k shape = is_map shape
fits negation k shape = is_one shape
fits condition k shape = is_one shape
fits (consequence wanted) k shape = is_one shape
fits items k shape = is_one shape
fits contains k shape = is_one shape
fits additional_properties k shape = is_one shape
fits property_names k shape = is_one shape
fits unevaluated_items k shape = is_one shape
fits unevaluated_properties k shape = is_one shape
fits _ k shape = true
