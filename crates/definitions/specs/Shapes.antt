-- The shapes that keywords' values have (JSON Schema 2020-12 Core, 8 to 10; Validation, 6).
use Rattle.std.specs.Prelude.{ℕ, suc, pos, List, [], ◌∷◌, Bool, true, false, ◌&&◌, ◌||◌, nat_lt, ◌==◌, length, codes, is_ok}
use Rattle.std.specs.List.{list_all, list_any}
use Rattle.definitions.specs.Bytes.{is_letter, underscore}
use Rattle.definitions.specs.Values.{Text, Value, integer, string, elements, members, same_text, is_boolean, is_integer, is_string, is_array, is_object}
use Rattle.definitions.specs.Uris.{split}
use Rattle.definitions.specs.Fragments.{fragment_kind}

pub data Shape : Type 0 where
  any_value : Shape
  truth : Shape
  whole_number : Shape
  -- at least 0
  size : Shape
  -- above 0
  divisor : Shape
  any_text : Shape
  -- any list, also an empty one
  value_list : Shape
  text_list : Shape
  -- an object of lists of texts
  text_lists : Shape
  type_names : Shape
  -- a URI reference whose fragment can be read
  reference : Shape
  one_schema : Shape
  -- not empty
  schema_list : Shape
  -- an object of schemas
  schema_map : Shape
  -- a URI reference that makes an identifier: judged by the base around it
  identifier : Shape
  anchor_name : Shape
  -- judged at a resource's root alone
  dialect : Shape

abbrev pub is_size : Value → Bool
is_size (integer (pos n)) = true
is_size _ = false

abbrev pub is_divisor : Value → Bool
is_divisor (integer (pos (suc n))) = true
is_divisor _ = false

abbrev pub is_text_list : Value → Bool
is_text_list v = is_array v && list_all is_string (elements v)

abbrev pub are_text_lists : Value → Bool
are_text_lists v = is_object v && list_all (λ m. is_text_list m.1) (members v)

-- ---- Validation, 6.1.1
abbrev pub types : List Text
types =
    codes "null" ∷ codes "boolean" ∷ codes "object" ∷ codes "array" ∷ codes "number" ∷ codes "string" ∷ codes "integer" ∷ []

abbrev pub is_type_name : Value → Bool
is_type_name (string s) = list_any (same_text s) types
is_type_name _ = false

-- one name, or a list of at least one
abbrev pub are_type_names : Value → Bool
are_type_names v = is_type_name v || (is_array v && (nat_lt 0 (length (elements v)) && list_all is_type_name (elements v)))

-- ---- Core, 8.2.3: references
abbrev pub is_reference : Value → Bool
is_reference (string s) = is_ok (fragment_kind ((split s).fragment))
is_reference _ = false

-- ---- Core, 10: schemas
abbrev pub is_schema : Value → Bool
is_schema v = is_object v || is_boolean v

abbrev pub is_schema_list : Value → Bool
is_schema_list v = is_array v && (nat_lt 0 (length (elements v)) && list_all is_schema (elements v))

abbrev pub is_schema_map : Value → Bool
is_schema_map v = is_object v && list_all (λ m. is_schema m.1) (members v)

-- ---- Core, 8.2.2: the name of an anchor is a letter or `_`, and then letters, digits, `-`, `.` and `_`
abbrev pub is_anchor_byte : ℕ → Bool
is_anchor_byte c = is_letter c || list_any (λ d. d == c) (codes "-._0123456789")

abbrev pub is_anchor_text : Text → Bool
is_anchor_text [] = false
is_anchor_text (c ∷ cs) = (is_letter c || (c == underscore)) && list_all is_anchor_byte cs

abbrev pub is_anchor_name : Value → Bool
is_anchor_name (string s) = is_anchor_text s
is_anchor_name _ = false

-- whether the value alone has the shape
abbrev pub has_shape : Shape → Value → Bool
has_shape any_value v = true
has_shape truth v = is_boolean v
has_shape whole_number v = is_integer v
has_shape size v = is_size v
has_shape divisor v = is_divisor v
has_shape any_text v = is_string v
has_shape value_list v = is_array v
has_shape text_list v = is_text_list v
has_shape text_lists v = are_text_lists v
has_shape type_names v = are_type_names v
has_shape reference v = is_reference v
has_shape one_schema v = is_schema v
has_shape schema_list v = is_schema_list v
has_shape schema_map v = is_schema_map v
has_shape identifier v = is_string v
has_shape anchor_name v = is_anchor_name v
has_shape dialect v = true
