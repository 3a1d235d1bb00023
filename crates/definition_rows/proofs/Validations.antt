-- Validations, from the texts of schemas and instance to the text of the output.
use Rattle.std.proofs.Common.{◌≡◌, refl}
use Rattle.std.specs.Prelude.{[], ◌∷◌, codes, Some, None}
use Rattle.std.specs.Fmt.{digits}
use Rattle.std.specs.Str.{is_utf8, chars}
use Rattle.serde_json.proofs.OnLiterals.{serde_json_on_literals}
use Rattle.definitions.specs.Outcomes.{object_outcome, outcome}
use Rattle.definitions.specs.Limits.{limits}
use Rattle.definition_rows.proofs.Asked.{said, refused, validated, validated_alone, validated_within}

missing_member : validated_alone (codes "{\"required\":[\"a\"],\"type\":\"object\"}") (codes "{}")
    ≡ Some (said (codes "{\"errors\":[{\"absoluteKeywordLocation\":\"https://ex.org/s#/required\",\"error\":\"required is not met\",\"instanceLocation\":\"\",\"keywordLocation\":\"/required\"}],\"valid\":false}"))
unfolding serde_json_on_literals digits is_utf8 chars object_outcome outcome
missing_member = refl

empty_schema : validated_alone (codes "{}") (codes "null")
    ≡ Some (said (codes "{\"annotations\":[],\"valid\":true}"))
unfolding serde_json_on_literals digits is_utf8 chars object_outcome outcome
empty_schema = refl

unevaluated_after_all_of : validated_alone (codes "{\"allOf\":[{\"properties\":{\"a\":true}}],\"unevaluatedProperties\":false}") (codes "{\"a\":1,\"b\":2}")
    ≡ Some (said (codes "{\"errors\":[{\"absoluteKeywordLocation\":\"https://ex.org/s#/unevaluatedProperties\",\"error\":\"unevaluatedProperties is not met\",\"instanceLocation\":\"\",\"keywordLocation\":\"/unevaluatedProperties\"},{\"absoluteKeywordLocation\":\"https://ex.org/s#/unevaluatedProperties\",\"error\":\"no value is allowed\",\"instanceLocation\":\"/b\",\"keywordLocation\":\"/unevaluatedProperties\"}],\"valid\":false}"))
unfolding serde_json_on_literals digits is_utf8 chars object_outcome outcome
unevaluated_after_all_of = refl

unevaluated_after_any_of : validated_alone (codes "{\"anyOf\":[{\"properties\":{\"a\":true}},{\"properties\":{\"b\":true},\"required\":[\"c\"]}],\"unevaluatedProperties\":false}") (codes "{\"a\":1,\"b\":2}")
    ≡ Some (said (codes "{\"errors\":[{\"absoluteKeywordLocation\":\"https://ex.org/s#/unevaluatedProperties\",\"error\":\"unevaluatedProperties is not met\",\"instanceLocation\":\"\",\"keywordLocation\":\"/unevaluatedProperties\"},{\"absoluteKeywordLocation\":\"https://ex.org/s#/unevaluatedProperties\",\"error\":\"no value is allowed\",\"instanceLocation\":\"/b\",\"keywordLocation\":\"/unevaluatedProperties\"}],\"valid\":false}"))
unfolding serde_json_on_literals digits is_utf8 chars object_outcome outcome
unevaluated_after_any_of = refl

open_tree : validated ((codes "https://example.com/strict-tree", codes "{\"$dynamicAnchor\":\"node\",\"$ref\":\"tree\",\"unevaluatedProperties\":false}")
    ∷ (codes "https://example.com/tree", codes "{\"$dynamicAnchor\":\"node\",\"properties\":{\"children\":{\"items\":{\"$dynamicRef\":\"#node\"},\"type\":\"array\"},\"data\":true},\"type\":\"object\"}") ∷ []) (codes "https://example.com/tree") (codes "{\"children\":[{\"daat\":1}]}")
    ≡ Some (said (codes "{\"annotations\":[{\"absoluteKeywordLocation\":\"https://example.com/tree#/properties\",\"annotation\":[\"children\"],\"instanceLocation\":\"\",\"keywordLocation\":\"/properties\"},{\"absoluteKeywordLocation\":\"https://example.com/tree#/properties/children/items\",\"annotation\":true,\"instanceLocation\":\"/children\",\"keywordLocation\":\"/properties/children/items\"},{\"absoluteKeywordLocation\":\"https://example.com/tree#/properties\",\"annotation\":[],\"instanceLocation\":\"/children/0\",\"keywordLocation\":\"/properties/children/items/$dynamicRef/properties\"}],\"valid\":true}"))
unfolding serde_json_on_literals digits is_utf8 chars object_outcome outcome
open_tree = refl

strict_tree : validated ((codes "https://example.com/strict-tree", codes "{\"$dynamicAnchor\":\"node\",\"$ref\":\"tree\",\"unevaluatedProperties\":false}")
    ∷ (codes "https://example.com/tree", codes "{\"$dynamicAnchor\":\"node\",\"properties\":{\"children\":{\"items\":{\"$dynamicRef\":\"#node\"},\"type\":\"array\"},\"data\":true},\"type\":\"object\"}") ∷ []) (codes "https://example.com/strict-tree") (codes "{\"children\":[{\"daat\":1}]}")
    ≡ Some (said (codes "{\"errors\":[{\"absoluteKeywordLocation\":\"https://example.com/strict-tree#/$ref\",\"error\":\"$ref is not met\",\"instanceLocation\":\"\",\"keywordLocation\":\"/$ref\"},{\"absoluteKeywordLocation\":\"https://example.com/tree#/properties\",\"error\":\"properties is not met\",\"instanceLocation\":\"\",\"keywordLocation\":\"/$ref/properties\"},{\"absoluteKeywordLocation\":\"https://example.com/tree#/properties/children/items\",\"error\":\"items is not met\",\"instanceLocation\":\"/children\",\"keywordLocation\":\"/$ref/properties/children/items\"},{\"absoluteKeywordLocation\":\"https://example.com/tree#/properties/children/items/$dynamicRef\",\"error\":\"$dynamicRef is not met\",\"instanceLocation\":\"/children/0\",\"keywordLocation\":\"/$ref/properties/children/items/$dynamicRef\"},{\"absoluteKeywordLocation\":\"https://example.com/strict-tree#/unevaluatedProperties\",\"error\":\"unevaluatedProperties is not met\",\"instanceLocation\":\"/children/0\",\"keywordLocation\":\"/$ref/properties/children/items/$dynamicRef/unevaluatedProperties\"},{\"absoluteKeywordLocation\":\"https://example.com/strict-tree#/unevaluatedProperties\",\"error\":\"no value is allowed\",\"instanceLocation\":\"/children/0/daat\",\"keywordLocation\":\"/$ref/properties/children/items/$dynamicRef/unevaluatedProperties\"},{\"absoluteKeywordLocation\":\"https://example.com/strict-tree#/unevaluatedProperties\",\"error\":\"unevaluatedProperties is not met\",\"instanceLocation\":\"\",\"keywordLocation\":\"/unevaluatedProperties\"},{\"absoluteKeywordLocation\":\"https://example.com/strict-tree#/unevaluatedProperties\",\"error\":\"no value is allowed\",\"instanceLocation\":\"/children\",\"keywordLocation\":\"/unevaluatedProperties\"}],\"valid\":false}"))
unfolding serde_json_on_literals digits is_utf8 chars object_outcome outcome
strict_tree = refl

loop_at_once : validated_alone (codes "{\"$ref\":\"#\"}") (codes "1")
    ≡ Some (refused (codes "Loop") None)
unfolding serde_json_on_literals digits is_utf8 chars object_outcome outcome
loop_at_once = refl

recursion_on_members : validated_alone (codes "{\"properties\":{\"a\":{\"$ref\":\"#\"}}}") (codes "{\"a\":{\"a\":1}}")
    ≡ Some (said (codes "{\"annotations\":[{\"absoluteKeywordLocation\":\"https://ex.org/s#/properties\",\"annotation\":[\"a\"],\"instanceLocation\":\"\",\"keywordLocation\":\"/properties\"},{\"absoluteKeywordLocation\":\"https://ex.org/s#/properties\",\"annotation\":[\"a\"],\"instanceLocation\":\"/a\",\"keywordLocation\":\"/properties/a/$ref/properties\"}],\"valid\":true}"))
unfolding serde_json_on_literals digits is_utf8 chars object_outcome outcome
recursion_on_members = refl

recursion_on_names : validated_alone (codes "{\"propertyNames\":{\"$ref\":\"#\"}}") (codes "{\"a\":1}")
    ≡ Some (said (codes "{\"annotations\":[],\"valid\":true}"))
unfolding serde_json_on_literals digits is_utf8 chars object_outcome outcome
recursion_on_names = refl

contains_nothing : validated_alone (codes "{\"contains\":{\"type\":\"string\"},\"minContains\":0}") (codes "[]")
    ≡ Some (said (codes "{\"annotations\":[{\"absoluteKeywordLocation\":\"https://ex.org/s#/contains\",\"annotation\":[],\"instanceLocation\":\"\",\"keywordLocation\":\"/contains\"}],\"valid\":true}"))
unfolding serde_json_on_literals digits is_utf8 chars object_outcome outcome
contains_nothing = refl

contains_at_least_one : validated_alone (codes "{\"contains\":{\"type\":\"string\"}}") (codes "[]")
    ≡ Some (said (codes "{\"errors\":[{\"absoluteKeywordLocation\":\"https://ex.org/s#/contains\",\"error\":\"contains is not met\",\"instanceLocation\":\"\",\"keywordLocation\":\"/contains\"}],\"valid\":false}"))
unfolding serde_json_on_literals digits is_utf8 chars object_outcome outcome
contains_at_least_one = refl

contains_too_few : validated_alone (codes "{\"contains\":{\"type\":\"string\"},\"minContains\":2}") (codes "[1]")
    ≡ Some (said (codes "{\"errors\":[{\"absoluteKeywordLocation\":\"https://ex.org/s#/contains\",\"error\":\"contains is not met\",\"instanceLocation\":\"\",\"keywordLocation\":\"/contains\"},{\"absoluteKeywordLocation\":\"https://ex.org/s#/contains/type\",\"error\":\"type is not met\",\"instanceLocation\":\"/0\",\"keywordLocation\":\"/contains/type\"},{\"absoluteKeywordLocation\":\"https://ex.org/s#/minContains\",\"error\":\"minContains is not met\",\"instanceLocation\":\"\",\"keywordLocation\":\"/minContains\"}],\"valid\":false}"))
unfolding serde_json_on_literals digits is_utf8 chars object_outcome outcome
contains_too_few = refl

least_integer : validated_alone (codes "{\"multipleOf\":7}") (codes "-9223372036854775808")
    ≡ Some (said (codes "{\"errors\":[{\"absoluteKeywordLocation\":\"https://ex.org/s#/multipleOf\",\"error\":\"multipleOf is not met\",\"instanceLocation\":\"\",\"keywordLocation\":\"/multipleOf\"}],\"valid\":false}"))
unfolding serde_json_on_literals digits is_utf8 chars object_outcome outcome
least_integer = refl

least_integer_even : validated_alone (codes "{\"multipleOf\":8}") (codes "-9223372036854775808")
    ≡ Some (said (codes "{\"annotations\":[],\"valid\":true}"))
unfolding serde_json_on_literals digits is_utf8 chars object_outcome outcome
least_integer_even = refl

across_an_embedded_resource : validated_alone (codes "{\"$defs\":{\"e\":{\"$defs\":{\"f\":{\"type\":\"null\"}},\"$id\":\"e\"}},\"$ref\":\"#/$defs/e/$defs/f\"}") (codes "1")
    ≡ Some (said (codes "{\"errors\":[{\"absoluteKeywordLocation\":\"https://ex.org/s#/$ref\",\"error\":\"$ref is not met\",\"instanceLocation\":\"\",\"keywordLocation\":\"/$ref\"},{\"absoluteKeywordLocation\":\"https://ex.org/e#/$defs/f/type\",\"error\":\"type is not met\",\"instanceLocation\":\"\",\"keywordLocation\":\"/$ref/type\"}],\"valid\":false}"))
unfolding serde_json_on_literals digits is_utf8 chars object_outcome outcome
across_an_embedded_resource = refl

-- ---- the limits, at small numbers
-- a chain of three references, each to the next
chain_that_fits : validated_within (record limits { nested_applications = 4; applications = 4 }) ((codes "https://ex.org/s", codes "{\"$ref\":\"#/$defs/d1\",\"$defs\":{\"d1\":{\"$ref\":\"#/$defs/d2\"},\"d2\":{\"$ref\":\"#/$defs/d3\"},\"d3\":{}}}") ∷ []) (codes "https://ex.org/s") (codes "1")
    ≡ Some (said (codes "{\"annotations\":[],\"valid\":true}"))
unfolding serde_json_on_literals digits is_utf8 chars object_outcome outcome
chain_that_fits = refl

chain_too_deep : validated_within (record limits { nested_applications = 3; applications = 4 }) ((codes "https://ex.org/s", codes "{\"$ref\":\"#/$defs/d1\",\"$defs\":{\"d1\":{\"$ref\":\"#/$defs/d2\"},\"d2\":{\"$ref\":\"#/$defs/d3\"},\"d3\":{}}}") ∷ []) (codes "https://ex.org/s") (codes "1")
    ≡ Some (refused (codes "Deep") None)
unfolding serde_json_on_literals digits is_utf8 chars object_outcome outcome
chain_too_deep = refl

too_many_applications : validated_within (record limits { nested_applications = 4; applications = 3 }) ((codes "https://ex.org/s", codes "{\"items\":true}") ∷ []) (codes "https://ex.org/s") (codes "[0,0,0]")
    ≡ Some (refused (codes "Costly") None)
unfolding serde_json_on_literals digits is_utf8 chars object_outcome outcome
too_many_applications = refl

as_many_as_may_be : validated_within (record limits { nested_applications = 4; applications = 4 }) ((codes "https://ex.org/s", codes "{\"items\":true}") ∷ []) (codes "https://ex.org/s") (codes "[0,0,0]")
    ≡ Some (said (codes "{\"annotations\":[{\"absoluteKeywordLocation\":\"https://ex.org/s#/items\",\"annotation\":true,\"instanceLocation\":\"\",\"keywordLocation\":\"/items\"}],\"valid\":true}"))
unfolding serde_json_on_literals digits is_utf8 chars object_outcome outcome
as_many_as_may_be = refl

-- ---- further keywords
annotations_in_order : validated_alone (codes "{\"additionalProperties\":{\"type\":\"integer\"},\"contentSchema\":{},\"properties\":{\"a\":{\"format\":\"date\"}},\"title\":\"t\"}") (codes "{\"a\":\"x\",\"c\":5}")
    ≡ Some (said (codes "{\"annotations\":[{\"absoluteKeywordLocation\":\"https://ex.org/s#/properties\",\"annotation\":[\"a\"],\"instanceLocation\":\"\",\"keywordLocation\":\"/properties\"},{\"absoluteKeywordLocation\":\"https://ex.org/s#/properties/a/format\",\"annotation\":\"date\",\"instanceLocation\":\"/a\",\"keywordLocation\":\"/properties/a/format\"},{\"absoluteKeywordLocation\":\"https://ex.org/s#/additionalProperties\",\"annotation\":[\"c\"],\"instanceLocation\":\"\",\"keywordLocation\":\"/additionalProperties\"},{\"absoluteKeywordLocation\":\"https://ex.org/s#/title\",\"annotation\":\"t\",\"instanceLocation\":\"\",\"keywordLocation\":\"/title\"}],\"valid\":true}"))
unfolding serde_json_on_literals digits is_utf8 chars object_outcome outcome
annotations_in_order = refl

prefix_shorter_than_the_list : validated_alone (codes "{\"items\":{\"type\":\"integer\"},\"prefixItems\":[true,true]}") (codes "[1,2,3]")
    ≡ Some (said (codes "{\"annotations\":[{\"absoluteKeywordLocation\":\"https://ex.org/s#/prefixItems\",\"annotation\":1,\"instanceLocation\":\"\",\"keywordLocation\":\"/prefixItems\"},{\"absoluteKeywordLocation\":\"https://ex.org/s#/items\",\"annotation\":true,\"instanceLocation\":\"\",\"keywordLocation\":\"/items\"}],\"valid\":true}"))
unfolding serde_json_on_literals digits is_utf8 chars object_outcome outcome
prefix_shorter_than_the_list = refl

prefix_as_long_as_the_list : validated_alone (codes "{\"items\":{\"type\":\"integer\"},\"prefixItems\":[true,true]}") (codes "[1,2]")
    ≡ Some (said (codes "{\"annotations\":[{\"absoluteKeywordLocation\":\"https://ex.org/s#/prefixItems\",\"annotation\":true,\"instanceLocation\":\"\",\"keywordLocation\":\"/prefixItems\"}],\"valid\":true}"))
unfolding serde_json_on_literals digits is_utf8 chars object_outcome outcome
prefix_as_long_as_the_list = refl

prefix_of_an_empty_list : validated_alone (codes "{\"items\":{\"type\":\"integer\"},\"prefixItems\":[true,true]}") (codes "[]")
    ≡ Some (said (codes "{\"annotations\":[],\"valid\":true}"))
unfolding serde_json_on_literals digits is_utf8 chars object_outcome outcome
prefix_of_an_empty_list = refl

both_of_one_of : validated_alone (codes "{\"oneOf\":[{\"type\":\"integer\"},{\"minimum\":3}]}") (codes "5")
    ≡ Some (said (codes "{\"errors\":[{\"absoluteKeywordLocation\":\"https://ex.org/s#/oneOf\",\"error\":\"oneOf is not met\",\"instanceLocation\":\"\",\"keywordLocation\":\"/oneOf\"}],\"valid\":false}"))
unfolding serde_json_on_literals digits is_utf8 chars object_outcome outcome
both_of_one_of = refl

one_of_one_of : validated_alone (codes "{\"oneOf\":[{\"type\":\"integer\"},{\"minimum\":3}]}") (codes "\"x\"")
    ≡ Some (said (codes "{\"annotations\":[],\"valid\":true}"))
unfolding serde_json_on_literals digits is_utf8 chars object_outcome outcome
one_of_one_of = refl

negated : validated_alone (codes "{\"not\":{\"type\":\"null\"}}") (codes "null")
    ≡ Some (said (codes "{\"errors\":[{\"absoluteKeywordLocation\":\"https://ex.org/s#/not\",\"error\":\"not is not met\",\"instanceLocation\":\"\",\"keywordLocation\":\"/not\"}],\"valid\":false}"))
unfolding serde_json_on_literals digits is_utf8 chars object_outcome outcome
negated = refl

extended : validated ((codes "https://example.com/base", codes "{\"$dynamicAnchor\":\"node\",\"properties\":{\"c\":{\"$dynamicRef\":\"#node\"}}}") ∷ (codes "https://example.com/ext", codes "{\"$dynamicAnchor\":\"node\",\"$ref\":\"base\",\"required\":[\"x\"]}") ∷ []) (codes "https://example.com/ext") (codes "{\"c\":{},\"x\":1}")
    ≡ Some (said (codes "{\"errors\":[{\"absoluteKeywordLocation\":\"https://example.com/ext#/$ref\",\"error\":\"$ref is not met\",\"instanceLocation\":\"\",\"keywordLocation\":\"/$ref\"},{\"absoluteKeywordLocation\":\"https://example.com/base#/properties\",\"error\":\"properties is not met\",\"instanceLocation\":\"\",\"keywordLocation\":\"/$ref/properties\"},{\"absoluteKeywordLocation\":\"https://example.com/base#/properties/c/$dynamicRef\",\"error\":\"$dynamicRef is not met\",\"instanceLocation\":\"/c\",\"keywordLocation\":\"/$ref/properties/c/$dynamicRef\"},{\"absoluteKeywordLocation\":\"https://example.com/ext#/required\",\"error\":\"required is not met\",\"instanceLocation\":\"/c\",\"keywordLocation\":\"/$ref/properties/c/$dynamicRef/required\"}],\"valid\":false}"))
unfolding serde_json_on_literals digits is_utf8 chars object_outcome outcome
extended = refl

loops_before_it_is_deep : validated_within (record limits { nested_applications = 3; applications = 100 }) ((codes "https://ex.org/s", codes "{\"$dynamicRef\":\"#\",\"$ref\":\"#/$defs/d1\",\"$defs\":{\"d1\":{\"$ref\":\"#/$defs/d2\"},\"d2\":{\"$ref\":\"#/$defs/d3\"},\"d3\":{}}}") ∷ []) (codes "https://ex.org/s") (codes "1")
    ≡ Some (refused (codes "Loop") None)
unfolding serde_json_on_literals digits is_utf8 chars object_outcome outcome
loops_before_it_is_deep = refl

-- each level applies the next twice: 2^(n+1) applications down to level n
doubled_within_the_budget : validated_within (record limits { nested_applications = 10; applications = 8 }) ((codes "https://ex.org/s", codes "{\"$ref\":\"#/$defs/s1\",\"$defs\":{\"s1\":{\"$dynamicRef\":\"#/$defs/s2\",\"$ref\":\"#/$defs/s2\"},\"s2\":{\"$dynamicRef\":\"#/$defs/s3\",\"$ref\":\"#/$defs/s3\"},\"s3\":{}}}") ∷ []) (codes "https://ex.org/s") (codes "1")
    ≡ Some (said (codes "{\"annotations\":[],\"valid\":true}"))
unfolding serde_json_on_literals digits is_utf8 chars object_outcome outcome
doubled_within_the_budget = refl

doubled_over_the_budget : validated_within (record limits { nested_applications = 10; applications = 7 }) ((codes "https://ex.org/s", codes "{\"$ref\":\"#/$defs/s1\",\"$defs\":{\"s1\":{\"$dynamicRef\":\"#/$defs/s2\",\"$ref\":\"#/$defs/s2\"},\"s2\":{\"$dynamicRef\":\"#/$defs/s3\",\"$ref\":\"#/$defs/s3\"},\"s3\":{}}}") ∷ []) (codes "https://ex.org/s") (codes "1")
    ≡ Some (refused (codes "Costly") None)
unfolding serde_json_on_literals digits is_utf8 chars object_outcome outcome
doubled_over_the_budget = refl
