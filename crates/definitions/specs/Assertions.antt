-- The keywords that look at their own value and the instance (JSON Schema 2020-12 Validation, section 6).
use Rattle.std.specs.Prelude.{ℕ, suc, ◌%◌, ℤ, pos, nat_abs, int_le, int_lt, List, [], ◌∷◌, Bool, true, false, ◌||◌, not, nat_le, ◌==◌, length, codes, is_some, chars}
use Rattle.std.specs.List.{list_all, list_any}
use Rattle.definitions.specs.Lists.{has_repeat}
use Rattle.definitions.specs.Values.{Text, Value, null, boolean, integer, string, array, object, same_text, same, entry, get, elements, elements_list, members_list}
use Rattle.definitions.specs.Shapes.{Shape, has_shape, any_value, truth, whole_number, size, divisor, value_list, text_list, text_lists, type_names}

pub data Assertion : Type 0 where
  type_is : Assertion
  enum_of : Assertion
  const_is : Assertion
  multiple_of : Assertion
  maximum : Assertion
  exclusive_maximum : Assertion
  minimum : Assertion
  exclusive_minimum : Assertion
  max_length : Assertion
  min_length : Assertion
  max_properties : Assertion
  min_properties : Assertion
  required : Assertion
  dependent_required : Assertion
  max_items : Assertion
  min_items : Assertion
  unique_items : Assertion

abbrev pub shape_of : Assertion → Shape
shape_of type_is = type_names
shape_of enum_of = value_list
shape_of const_is = any_value
shape_of multiple_of = divisor
shape_of maximum = whole_number
shape_of exclusive_maximum = whole_number
shape_of minimum = whole_number
shape_of exclusive_minimum = whole_number
shape_of max_length = size
shape_of min_length = size
shape_of max_properties = size
shape_of min_properties = size
shape_of required = text_list
shape_of dependent_required = text_lists
shape_of max_items = size
shape_of min_items = size
shape_of unique_items = truth

-- ---- 6.1.1: the names of the types of a value; a whole number is both number and integer
abbrev pub types_of : Value → List Text
types_of null = codes "null" ∷ []
types_of (boolean b) = codes "boolean" ∷ []
types_of (integer z) = codes "number" ∷ codes "integer" ∷ []
types_of (string s) = codes "string" ∷ []
types_of (array vs) = codes "array" ∷ []
types_of (object ms) = codes "object" ∷ []

abbrev pub is_of_type : Value → Value → Bool
is_of_type x (string t) = list_any (same_text t) (types_of x)
is_of_type x _ = false

abbrev pub is_of_types : Value → Value → Bool
is_of_types x (array ts) = list_any (is_of_type x) (elements_list ts)
is_of_types x t = is_of_type x t

-- ---- 6.1.2
abbrev pub is_one_of : Value → Value → Bool
is_one_of x v = list_any (same x) (elements v)

-- ---- 6.2: both are numbers, and the divisor, above 0, divides the other
abbrev pub is_multiple : Value → Value → Bool
is_multiple (integer z) (integer (pos (suc n))) = (nat_abs z % suc n) == 0
is_multiple _ _ = false

abbrev pub on_integer : (Value → Bool) → Value → Bool
on_integer p (integer z) = p (integer z)
on_integer p _ = true

-- two numbers in this order
abbrev pub are_ordered : (ℤ → ℤ → Bool) → Value → Value → Bool
are_ordered p (integer y) (integer z) = p y z
are_ordered p _ _ = true

-- ---- 6.3, 6.4, 6.5: a size against a limit
abbrev pub is_at_most : Value → ℕ → Bool
is_at_most (integer (pos n)) count = nat_le count n
is_at_most _ count = true

abbrev pub is_at_least : Value → ℕ → Bool
is_at_least (integer (pos n)) count = nat_le n count
is_at_least _ count = true

-- the number of code points
abbrev pub on_length : (ℕ → Bool) → Value → Bool
on_length p (string s) = p (length (chars s))
on_length p _ = true

abbrev pub on_elements : (ℕ → Bool) → Value → Bool
on_elements p (array vs) = p (length (elements_list vs))
on_elements p _ = true

abbrev pub on_members : (ℕ → Bool) → Value → Bool
on_members p (object ms) = p (length (members_list ms))
on_members p _ = true

-- ---- 6.4.3
abbrev pub is_unique : Value → Bool
is_unique v = not (has_repeat same (elements v))

abbrev pub is_unique_if : Value → Value → Bool
is_unique_if (boolean true) x = is_unique x
is_unique_if _ x = true

-- ---- 6.5.3, 6.5.4
abbrev pub has_name : Value → Value → Bool
has_name x (string name) = is_some (get name x)
has_name x _ = true

abbrev pub has_names : Value → Value → Bool
has_names (object ms) names = list_all (has_name (object ms)) (elements names)
has_names _ names = true

-- for each name that is there, those that it asks for
abbrev pub has_dependents : Value → Value → Bool
has_dependents (object ms) (object ds) =
    list_all (λ d. not (is_some (entry d.0 (members_list ms))) || has_names (object ms) d.1) (members_list ds)
has_dependents _ _ = true

-- ---- what each asks of the instance
abbrev pub assertion_holds : Assertion → Value → Value → Bool
assertion_holds type_is v x = is_of_types x v
assertion_holds enum_of v x = is_one_of x v
assertion_holds const_is v x = same v x
assertion_holds multiple_of v x = on_integer (λ y. is_multiple y v) x
assertion_holds maximum v x = are_ordered int_le x v
assertion_holds exclusive_maximum v x = are_ordered int_lt x v
assertion_holds minimum v x = are_ordered int_le v x
assertion_holds exclusive_minimum v x = are_ordered int_lt v x
assertion_holds max_length v x = on_length (is_at_most v) x
assertion_holds min_length v x = on_length (is_at_least v) x
assertion_holds max_properties v x = on_members (is_at_most v) x
assertion_holds min_properties v x = on_members (is_at_least v) x
assertion_holds required v x = has_names x v
assertion_holds dependent_required v x = has_dependents x v
assertion_holds max_items v x = on_elements (is_at_most v) x
assertion_holds min_items v x = on_elements (is_at_least v) x
assertion_holds unique_items v x = is_unique_if v x

-- the keyword with this value holds of the instance. A value of another shape asks for nothing
abbrev pub holds : Assertion → Value → Value → Bool
holds a v x = not (has_shape (shape_of a) v) || assertion_holds a v x
