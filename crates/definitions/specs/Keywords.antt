-- The keywords, in the order of evaluation (JSON Schema 2020-12 Core, 8, 10 and 11; Validation, 6): name, shape of the
-- value, and what the keyword does.
use Rattle.std.specs.Prelude.{List, [], ◌∷◌, Bool, true, false, codes, Option, find, is_some, option_map, unwrap_or}
use Rattle.definitions.specs.Values.{Text, same_text}
use Rattle.definitions.specs.Shapes.{Shape, any_value, any_text, size, reference, one_schema, schema_list, schema_map, identifier, anchor_name, dialect}
use Rattle.definitions.specs.Assertions.{Assertion, shape_of, type_is, enum_of, const_is, multiple_of, maximum, exclusive_maximum, minimum, exclusive_minimum, max_length, min_length, max_properties, min_properties, required, dependent_required, max_items, min_items, unique_items}

pub data Meaning : Type 0 where
  -- looks at its own value and the instance
  asserts : Assertion → Meaning
  matches_pattern : Meaning
  refers : Meaning
  refers_dynamically : Meaning
  all_of : Meaning
  any_of : Meaning
  one_of : Meaning
  negation : Meaning
  condition : Meaning
  -- where the condition passed, or where it failed
  consequence : Bool → Meaning
  dependent_schemas : Meaning
  prefix_items : Meaning
  items : Meaning
  contains : Meaning
  min_contains : Meaning
  max_contains : Meaning
  properties : Meaning
  pattern_properties : Meaning
  additional_properties : Meaning
  property_names : Meaning
  unevaluated_items : Meaning
  unevaluated_properties : Meaning
  -- applies nothing: it names, or keeps schemas for others to refer to
  declares : Meaning

pub record Keyword : Type 0 where
  pub name : Text
  pub shape : Shape
  pub meaning : Meaning

abbrev pub row : Text → Shape → Meaning → Keyword
row name shape meaning = record { name = name; shape = shape; meaning = meaning }

abbrev pub assertion_row : Text → Assertion → Keyword
assertion_row name a = row name (shape_of a) (asserts a)

abbrev pub keywords : List Keyword
keywords =
    row (codes "$ref") reference refers
    ∷ row (codes "$dynamicRef") reference refers_dynamically
    ∷ assertion_row (codes "type") type_is
    ∷ assertion_row (codes "enum") enum_of
    ∷ assertion_row (codes "const") const_is
    ∷ assertion_row (codes "multipleOf") multiple_of
    ∷ assertion_row (codes "maximum") maximum
    ∷ assertion_row (codes "exclusiveMaximum") exclusive_maximum
    ∷ assertion_row (codes "minimum") minimum
    ∷ assertion_row (codes "exclusiveMinimum") exclusive_minimum
    ∷ assertion_row (codes "maxLength") max_length
    ∷ assertion_row (codes "minLength") min_length
    ∷ row (codes "pattern") any_text matches_pattern
    ∷ assertion_row (codes "maxProperties") max_properties
    ∷ assertion_row (codes "minProperties") min_properties
    ∷ assertion_row (codes "required") required
    ∷ assertion_row (codes "dependentRequired") dependent_required
    ∷ assertion_row (codes "maxItems") max_items
    ∷ assertion_row (codes "minItems") min_items
    ∷ assertion_row (codes "uniqueItems") unique_items
    ∷ row (codes "allOf") schema_list all_of
    ∷ row (codes "anyOf") schema_list any_of
    ∷ row (codes "oneOf") schema_list one_of
    ∷ row (codes "not") one_schema negation
    ∷ row (codes "if") one_schema condition
    ∷ row (codes "then") one_schema (consequence true)
    ∷ row (codes "else") one_schema (consequence false)
    ∷ row (codes "dependentSchemas") schema_map dependent_schemas
    ∷ row (codes "prefixItems") schema_list prefix_items
    ∷ row (codes "items") one_schema items
    ∷ row (codes "contains") one_schema contains
    ∷ row (codes "minContains") size min_contains
    ∷ row (codes "maxContains") size max_contains
    ∷ row (codes "properties") schema_map properties
    ∷ row (codes "patternProperties") schema_map pattern_properties
    ∷ row (codes "additionalProperties") one_schema additional_properties
    ∷ row (codes "propertyNames") one_schema property_names
    ∷ row (codes "unevaluatedItems") one_schema unevaluated_items
    ∷ row (codes "unevaluatedProperties") one_schema unevaluated_properties
    ∷ row (codes "$defs") schema_map declares
    ∷ row (codes "definitions") schema_map declares
    ∷ row (codes "contentSchema") one_schema declares
    ∷ row (codes "$id") identifier declares
    ∷ row (codes "$anchor") anchor_name declares
    ∷ row (codes "$dynamicAnchor") anchor_name declares
    ∷ row (codes "$schema") dialect declares ∷ []

-- those that look at what all others evaluated
abbrev pub looks_at_evaluated : Meaning → Bool
looks_at_evaluated unevaluated_items = true
looks_at_evaluated unevaluated_properties = true
looks_at_evaluated _ = false

abbrev pub keyword_named : Text → List Keyword → Option Keyword
keyword_named name = find (λ k. same_text name k.name)

abbrev pub is_keyword_of : List Keyword → Text → Bool
is_keyword_of rows name = is_some (keyword_named name rows)

-- any value under a name that stands in no row
abbrev pub shape_in : List Keyword → Text → Shape
shape_in rows name = unwrap_or (option_map (λ k. k.shape) (keyword_named name rows)) any_value
