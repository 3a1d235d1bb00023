-- The row of a keyword in the definitions' table.
use Rattle.std.specs.Prelude.{Option, codes, true, false}
use Rattle.definitions.specs.Values.{Text}
use Rattle.definitions.specs.Shapes.{Shape, anchor_name, any_text, dialect, identifier, one_schema, reference, schema_list, schema_map, size}
use Rattle.definitions.specs.Assertions.{type_is, enum_of, const_is, multiple_of, maximum, exclusive_maximum, minimum, exclusive_minimum, max_length, min_length, max_properties, min_properties, required, dependent_required, max_items, min_items, unique_items}
use Rattle.definitions.specs.Keywords as table
use Rattle.definitions.specs.Keywords.{keyword_named, keywords, shape_in, all_of, any_of, assertion_row, min_contains, max_contains, condition, consequence, declares, dependent_schemas, matches_pattern, negation, one_of, additional_properties, pattern_properties, prefix_items, property_names, refers, refers_dynamically, items, row, contains, unevaluated_items, unevaluated_properties}
use Rattle.keywords.specs.declared.keyword.Keyword.{Keyword}
use Rattle.keywords.specs.declared.keyword.Keyword.TheVariants.{Ref, DynamicRef, «Type», Enum, Const, MultipleOf, Maximum, ExclusiveMaximum, Minimum, ExclusiveMinimum, MaxLength, MinLength, Pattern, MaxProperties, MinProperties, Required, DependentRequired, MaxItems, MinItems, UniqueItems, AllOf, AnyOf, OneOf, Not, If, Then, Else, DependentSchemas, PrefixItems, Items, Contains, MinContains, MaxContains, Properties, PatternProperties, AdditionalProperties, PropertyNames, UnevaluatedItems, UnevaluatedProperties, Defs, Definitions, ContentSchema, Id, Anchor, DynamicAnchor, Schema}

abbrev pub row_of : Keyword → table.Keyword
row_of Ref = row (codes "$ref") reference refers
row_of DynamicRef = row (codes "$dynamicRef") reference refers_dynamically
row_of «Type» = assertion_row (codes "type") type_is
row_of Enum = assertion_row (codes "enum") enum_of
row_of Const = assertion_row (codes "const") const_is
row_of MultipleOf = assertion_row (codes "multipleOf") multiple_of
row_of Maximum = assertion_row (codes "maximum") maximum
row_of ExclusiveMaximum = assertion_row (codes "exclusiveMaximum") exclusive_maximum
row_of Minimum = assertion_row (codes "minimum") minimum
row_of ExclusiveMinimum = assertion_row (codes "exclusiveMinimum") exclusive_minimum
row_of MaxLength = assertion_row (codes "maxLength") max_length
row_of MinLength = assertion_row (codes "minLength") min_length
row_of Pattern = row (codes "pattern") any_text matches_pattern
row_of MaxProperties = assertion_row (codes "maxProperties") max_properties
row_of MinProperties = assertion_row (codes "minProperties") min_properties
row_of Required = assertion_row (codes "required") required
row_of DependentRequired = assertion_row (codes "dependentRequired") dependent_required
row_of MaxItems = assertion_row (codes "maxItems") max_items
row_of MinItems = assertion_row (codes "minItems") min_items
row_of UniqueItems = assertion_row (codes "uniqueItems") unique_items
row_of AllOf = row (codes "allOf") schema_list all_of
row_of AnyOf = row (codes "anyOf") schema_list any_of
row_of OneOf = row (codes "oneOf") schema_list one_of
row_of Not = row (codes "not") one_schema negation
row_of If = row (codes "if") one_schema condition
row_of Then = row (codes "then") one_schema (consequence true)
row_of Else = row (codes "else") one_schema (consequence false)
row_of DependentSchemas = row (codes "dependentSchemas") schema_map dependent_schemas
row_of PrefixItems = row (codes "prefixItems") schema_list prefix_items
row_of Items = row (codes "items") one_schema items
row_of Contains = row (codes "contains") one_schema contains
row_of MinContains = row (codes "minContains") size min_contains
row_of MaxContains = row (codes "maxContains") size max_contains
row_of Properties = row (codes "properties") schema_map table.properties
row_of PatternProperties = row (codes "patternProperties") schema_map pattern_properties
row_of AdditionalProperties = row (codes "additionalProperties") one_schema additional_properties
row_of PropertyNames = row (codes "propertyNames") one_schema property_names
row_of UnevaluatedItems = row (codes "unevaluatedItems") one_schema unevaluated_items
row_of UnevaluatedProperties = row (codes "unevaluatedProperties") one_schema unevaluated_properties
row_of Defs = row (codes "$defs") schema_map declares
row_of Definitions = row (codes "definitions") schema_map declares
row_of ContentSchema = row (codes "contentSchema") one_schema declares
row_of Id = row (codes "$id") identifier declares
row_of Anchor = row (codes "$anchor") anchor_name declares
row_of DynamicAnchor = row (codes "$dynamicAnchor") anchor_name declares
row_of Schema = row (codes "$schema") dialect declares

-- the definitions' row of this name, if there is one
unfoldable pub row_named : Text → Option table.Keyword
row_named name = keyword_named name keywords

-- the shape that the keyword of this name asks for
unfoldable pub shape_named : Text → Shape
shape_named name = shape_in keywords name
