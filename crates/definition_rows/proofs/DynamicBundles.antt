-- Bundles whose documents are reached by dynamic references alone, and what they answer when they stand alone.
use Rattle.std.proofs.Common.{◌≡◌, refl}
use Rattle.std.specs.Prelude.{[], ◌∷◌, codes, false}
use Rattle.std.specs.Fmt.{digits}
use Rattle.std.specs.Str.{is_utf8, chars}
use Rattle.serde_json.proofs.OnLiterals.{serde_json_on_literals}
use Rattle.definitions.specs.Outcomes.{object_outcome, outcome}
use Rattle.definitions.specs.Registries.{put, validate, bundled_from, stored, validated, bundled}
use Rattle.definition_rows.proofs.Asked.{replied, was}

strict_tree_bundled : replied [] 100 10000 (
    put (codes "https://example.com/tree") (codes "{\"$dynamicAnchor\":\"node\",\"properties\":{\"children\":{\"items\":{\"$dynamicRef\":\"#node\"},\"type\":\"array\"},\"data\":true},\"type\":\"object\"}")
    ∷ put (codes "https://example.com/strict-tree") (codes "{\"$dynamicAnchor\":\"node\",\"$ref\":\"tree\",\"unevaluatedProperties\":false}")
    ∷ bundled_from (codes "https://example.com/strict-tree") ∷ [])
    ≡ was (stored (codes "https://example.com/tree") false)
    ∷ was (stored (codes "https://example.com/strict-tree") false)
    ∷ was (bundled (codes "{\"$defs\":{\"https://example.com/tree\":{\"$dynamicAnchor\":\"node\",\"$id\":\"https://example.com/tree\",\"properties\":{\"children\":{\"items\":{\"$dynamicRef\":\"#node\"},\"type\":\"array\"},\"data\":true},\"type\":\"object\"}},\"$dynamicAnchor\":\"node\",\"$id\":\"https://example.com/strict-tree\",\"$ref\":\"tree\",\"unevaluatedProperties\":false}")) ∷ []
unfolding serde_json_on_literals digits is_utf8 chars object_outcome outcome
strict_tree_bundled = refl

strict_tree_alone : replied [] 100 10000 (
    put (codes "urn:x") (codes "{\"$defs\":{\"https://example.com/tree\":{\"$dynamicAnchor\":\"node\",\"$id\":\"https://example.com/tree\",\"properties\":{\"children\":{\"items\":{\"$dynamicRef\":\"#node\"},\"type\":\"array\"},\"data\":true},\"type\":\"object\"}},\"$dynamicAnchor\":\"node\",\"$id\":\"https://example.com/strict-tree\",\"$ref\":\"tree\",\"unevaluatedProperties\":false}")
    ∷ validate (codes "https://example.com/strict-tree") (codes "{\"children\":[{\"daat\":1}]}") ∷ [])
    ≡ was (stored (codes "https://example.com/strict-tree") false)
    ∷ was (validated (codes "{\"errors\":[{\"absoluteKeywordLocation\":\"https://example.com/strict-tree#/$ref\",\"error\":\"$ref is not met\",\"instanceLocation\":\"\",\"keywordLocation\":\"/$ref\"},{\"absoluteKeywordLocation\":\"https://example.com/tree#/properties\",\"error\":\"properties is not met\",\"instanceLocation\":\"\",\"keywordLocation\":\"/$ref/properties\"},{\"absoluteKeywordLocation\":\"https://example.com/tree#/properties/children/items\",\"error\":\"items is not met\",\"instanceLocation\":\"/children\",\"keywordLocation\":\"/$ref/properties/children/items\"},{\"absoluteKeywordLocation\":\"https://example.com/tree#/properties/children/items/$dynamicRef\",\"error\":\"$dynamicRef is not met\",\"instanceLocation\":\"/children/0\",\"keywordLocation\":\"/$ref/properties/children/items/$dynamicRef\"},{\"absoluteKeywordLocation\":\"https://example.com/strict-tree#/unevaluatedProperties\",\"error\":\"unevaluatedProperties is not met\",\"instanceLocation\":\"/children/0\",\"keywordLocation\":\"/$ref/properties/children/items/$dynamicRef/unevaluatedProperties\"},{\"absoluteKeywordLocation\":\"https://example.com/strict-tree#/unevaluatedProperties\",\"error\":\"no value is allowed\",\"instanceLocation\":\"/children/0/daat\",\"keywordLocation\":\"/$ref/properties/children/items/$dynamicRef/unevaluatedProperties\"},{\"absoluteKeywordLocation\":\"https://example.com/strict-tree#/unevaluatedProperties\",\"error\":\"unevaluatedProperties is not met\",\"instanceLocation\":\"\",\"keywordLocation\":\"/unevaluatedProperties\"},{\"absoluteKeywordLocation\":\"https://example.com/strict-tree#/unevaluatedProperties\",\"error\":\"no value is allowed\",\"instanceLocation\":\"/children\",\"keywordLocation\":\"/unevaluatedProperties\"}],\"valid\":false}")) ∷ []
unfolding serde_json_on_literals digits is_utf8 chars object_outcome outcome
strict_tree_alone = refl

dynamic_reference_bundled : replied [] 100 10000 (
    put (codes "https://ex.org/root") (codes "{\"$dynamicRef\":\"d#n\"}")
    ∷ put (codes "https://ex.org/d") (codes "{\"$dynamicAnchor\":\"n\",\"type\":\"null\"}")
    ∷ bundled_from (codes "https://ex.org/root")
    ∷ validate (codes "https://ex.org/root") (codes "1") ∷ [])
    ≡ was (stored (codes "https://ex.org/root") false)
    ∷ was (stored (codes "https://ex.org/d") false)
    ∷ was (bundled (codes "{\"$defs\":{\"https://ex.org/d\":{\"$dynamicAnchor\":\"n\",\"$id\":\"https://ex.org/d\",\"type\":\"null\"}},\"$dynamicRef\":\"d#n\",\"$id\":\"https://ex.org/root\"}"))
    ∷ was (validated (codes "{\"errors\":[{\"absoluteKeywordLocation\":\"https://ex.org/root#/$dynamicRef\",\"error\":\"$dynamicRef is not met\",\"instanceLocation\":\"\",\"keywordLocation\":\"/$dynamicRef\"},{\"absoluteKeywordLocation\":\"https://ex.org/d#/type\",\"error\":\"type is not met\",\"instanceLocation\":\"\",\"keywordLocation\":\"/$dynamicRef/type\"}],\"valid\":false}")) ∷ []
unfolding serde_json_on_literals digits is_utf8 chars object_outcome outcome
dynamic_reference_bundled = refl

dynamic_reference_alone : replied [] 100 10000 (
    put (codes "urn:x") (codes "{\"$defs\":{\"https://ex.org/d\":{\"$dynamicAnchor\":\"n\",\"$id\":\"https://ex.org/d\",\"type\":\"null\"}},\"$dynamicRef\":\"d#n\",\"$id\":\"https://ex.org/root\"}")
    ∷ validate (codes "https://ex.org/root") (codes "1") ∷ [])
    ≡ was (stored (codes "https://ex.org/root") false)
    ∷ was (validated (codes "{\"errors\":[{\"absoluteKeywordLocation\":\"https://ex.org/root#/$dynamicRef\",\"error\":\"$dynamicRef is not met\",\"instanceLocation\":\"\",\"keywordLocation\":\"/$dynamicRef\"},{\"absoluteKeywordLocation\":\"https://ex.org/d#/type\",\"error\":\"type is not met\",\"instanceLocation\":\"\",\"keywordLocation\":\"/$dynamicRef/type\"}],\"valid\":false}")) ∷ []
unfolding serde_json_on_literals digits is_utf8 chars object_outcome outcome
dynamic_reference_alone = refl
