-- Requests of one tenant, and the replies in turn.
use Rattle.std.proofs.Common.{◌≡◌, refl}
use Rattle.std.specs.Prelude.{[], ◌∷◌, codes, true, false, Some, None, Ok, Err}
use Rattle.std.specs.Fmt.{digits}
use Rattle.std.specs.Str.{is_utf8, chars}
use Rattle.regex_hir.specs.Find.{find_str, first_from}
use Rattle.regex_hir.specs.Text.{is_boundary, has_bytes_at}
use Rattle.regex_hir.specs.Re.{attempt, rounds}
use Rattle.regex.proofs.OnLiterals.{regex_on_literals}
use Rattle.serde_json.proofs.OnLiterals.{serde_json_on_literals}
use Rattle.definitions.specs.Limits.{limits}
use Rattle.definitions.specs.Values.{null}
use Rattle.definitions.specs.Faults.{too_large, bundle_too_large}
use Rattle.definitions.specs.Outcomes.{object_outcome, outcome}
use Rattle.definitions.specs.Bundles.{value_within_limits}
use Rattle.definitions.specs.Registries.{put, delete, validate, bundled_from, stored, deleted, validated, bundled, body_within}
use Rattle.definition_rows.proofs.Asked.{replied, replied_matching, reached, was, gave}

taken_and_replaced : replied [] 100 10000 (
    put (codes "https://ex.org/x") (codes "{}")
    ∷ put (codes "https://ex.org/y") (codes "{\"$defs\":{\"e\":{\"$id\":\"x\"}}}")
    ∷ put (codes "https://ex.org/z") (codes "{\"$defs\":{\"e\":{\"$id\":\"w\"}}}")
    ∷ validate (codes "https://ex.org/w") (codes "null")
    ∷ bundled_from (codes "https://ex.org/w")
    ∷ put (codes "https://ex.org/w") (codes "{}")
    ∷ put (codes "https://ex.org/z") (codes "{}")
    ∷ put (codes "https://ex.org/w") (codes "{}") ∷ [])
    ≡ was (stored (codes "https://ex.org/x") false)
    ∷ gave (codes "Taken") (Some (codes "https://ex.org/x"))
    ∷ was (stored (codes "https://ex.org/z") false)
    ∷ was (validated (codes "{\"annotations\":[],\"valid\":true}"))
    ∷ gave (codes "NotFound") None
    ∷ gave (codes "Taken") (Some (codes "https://ex.org/w"))
    ∷ was (stored (codes "https://ex.org/z") true)
    ∷ was (stored (codes "https://ex.org/w") false) ∷ []
unfolding serde_json_on_literals digits is_utf8 chars object_outcome outcome
taken_and_replaced = refl

unresolved_then_resolved : replied [] 100 10000 (
    put (codes "https://ex.org/s") (codes "{\"$defs\":{\"u\":{\"$ref\":\"q\"},\"v\":{\"$ref\":\"p\"}}}")
    ∷ validate (codes "https://ex.org/s") (codes "null")
    ∷ put (codes "https://ex.org/p") (codes "{}")
    ∷ validate (codes "https://ex.org/s") (codes "null")
    ∷ put (codes "https://ex.org/q") (codes "{}")
    ∷ validate (codes "https://ex.org/s") (codes "null") ∷ [])
    ≡ was (stored (codes "https://ex.org/s") false)
    ∷ gave (codes "Unresolved") (Some (codes "https://ex.org/p"))
    ∷ was (stored (codes "https://ex.org/p") false)
    ∷ gave (codes "Unresolved") (Some (codes "https://ex.org/q"))
    ∷ was (stored (codes "https://ex.org/q") false)
    ∷ was (validated (codes "{\"annotations\":[],\"valid\":true}")) ∷ []
unfolding serde_json_on_literals digits is_utf8 chars object_outcome outcome
unresolved_then_resolved = refl

bundled_with_its_parts : replied [] 100 10000 (
    put (codes "https://ex.org/root") (codes "{\"properties\":{\"a\":{\"$ref\":\"b\"}}}")
    ∷ put (codes "https://ex.org/b") (codes "{\"type\":\"integer\"}")
    ∷ bundled_from (codes "https://ex.org/root")
    ∷ validate (codes "https://ex.org/root") (codes "{\"a\":\"x\"}") ∷ [])
    ≡ was (stored (codes "https://ex.org/root") false)
    ∷ was (stored (codes "https://ex.org/b") false)
    ∷ was (bundled (codes "{\"$defs\":{\"https://ex.org/b\":{\"$id\":\"https://ex.org/b\",\"type\":\"integer\"}},\"$id\":\"https://ex.org/root\",\"properties\":{\"a\":{\"$ref\":\"b\"}}}"))
    ∷ was (validated (codes "{\"errors\":[{\"absoluteKeywordLocation\":\"https://ex.org/root#/properties\",\"error\":\"properties is not met\",\"instanceLocation\":\"\",\"keywordLocation\":\"/properties\"},{\"absoluteKeywordLocation\":\"https://ex.org/root#/properties/a/$ref\",\"error\":\"$ref is not met\",\"instanceLocation\":\"/a\",\"keywordLocation\":\"/properties/a/$ref\"},{\"absoluteKeywordLocation\":\"https://ex.org/b#/type\",\"error\":\"type is not met\",\"instanceLocation\":\"/a\",\"keywordLocation\":\"/properties/a/$ref/type\"}],\"valid\":false}")) ∷ []
unfolding serde_json_on_literals digits is_utf8 chars object_outcome outcome
bundled_with_its_parts = refl

bundle_clash : replied [] 100 10000 (
    put (codes "https://ex.org/root") (codes "{\"$defs\":{\"https://ex.org/b\":{}},\"$ref\":\"b\"}")
    ∷ put (codes "https://ex.org/b") (codes "{}")
    ∷ bundled_from (codes "https://ex.org/root") ∷ [])
    ≡ was (stored (codes "https://ex.org/root") false)
    ∷ was (stored (codes "https://ex.org/b") false)
    ∷ gave (codes "BundleClash") (Some (codes "https://ex.org/b")) ∷ []
unfolding serde_json_on_literals digits is_utf8 chars object_outcome outcome
bundle_clash = refl

quotas : replied [] 1 20 (
    put (codes "https://ex.org/a") (codes "{}")
    ∷ put (codes "https://ex.org/b") (codes "{}")
    ∷ put (codes "https://ex.org/a") (codes "{\"type\":\"string\"}")
    ∷ put (codes "https://ex.org/a") (codes "{\"minLength\":10000000}")
    ∷ delete (codes "https://ex.org/a")
    ∷ delete (codes "https://ex.org/a")
    ∷ put (codes "https://ex.org/b") (codes "{}") ∷ [])
    ≡ was (stored (codes "https://ex.org/a") false)
    ∷ gave (codes "QuotaDocuments") None
    ∷ was (stored (codes "https://ex.org/a") true)
    ∷ gave (codes "QuotaBytes") None
    ∷ was (deleted (codes "https://ex.org/a"))
    ∷ gave (codes "NotFound") None
    ∷ was (stored (codes "https://ex.org/b") false) ∷ []
unfolding serde_json_on_literals digits is_utf8 chars object_outcome outcome
quotas = refl

base_forms : replied [] 100 10000 (
    put (codes "https://ex.org/x/../a") (codes "{}")
    ∷ put (codes "s") (codes "{}")
    ∷ put (codes "https://ex.org/a#") (codes "{}")
    ∷ put (codes "x:/.//a") (codes "{}")
    ∷ put (codes "https://ex.org/a/c/x") (codes "{\"$id\":\"../b\"}")
    ∷ validate (codes "https://ex.org/a/b") (codes "null")
    ∷ validate (codes "https://ex.org/a/c/x") (codes "null") ∷ [])
    ≡ was (stored (codes "https://ex.org/a") false)
    ∷ gave (codes "BadUri") None
    ∷ gave (codes "BadUri") None
    ∷ gave (codes "BadUri") None
    ∷ was (stored (codes "https://ex.org/a/b") false)
    ∷ was (validated (codes "{\"annotations\":[],\"valid\":true}"))
    ∷ gave (codes "NotFound") None ∷ []
unfolding serde_json_on_literals digits is_utf8 chars object_outcome outcome
base_forms = refl

refused_pattern_keeps_the_old : replied ((codes "(?=a)") ∷ []) 100 10000 (
    put (codes "https://ex.org/s") (codes "{\"type\":\"string\"}")
    ∷ put (codes "https://ex.org/s") (codes "{\"pattern\":\"(?=a)\"}")
    ∷ validate (codes "https://ex.org/s") (codes "\"xaay\"")
    ∷ put (codes "https://ex.org/s") (codes "[1")
    ∷ put (codes "https://ex.org/s") (codes "{\"a\":1.0}") ∷ [])
    ≡ was (stored (codes "https://ex.org/s") false)
    ∷ gave (codes "BadPattern") None
    ∷ was (validated (codes "{\"annotations\":[],\"valid\":true}"))
    ∷ gave (codes "BadJson") None
    ∷ gave (codes "BadNumber") None ∷ []
unfolding serde_json_on_literals digits is_utf8 chars object_outcome outcome
refused_pattern_keeps_the_old = refl

one_anchor_in_two_resources : replied [] 100 10000 (
    put (codes "https://ex.org/s") (codes "{\"$anchor\":\"n\",\"$defs\":{\"d\":{\"$dynamicAnchor\":\"n\"}}}")
    ∷ put (codes "https://ex.org/s") (codes "{\"$anchor\":\"n\",\"$defs\":{\"d\":{\"$dynamicAnchor\":\"n\",\"$id\":\"e\"}}}") ∷ [])
    ≡ gave (codes "DuplicateAnchor") None
    ∷ was (stored (codes "https://ex.org/s") false) ∷ []
unfolding serde_json_on_literals digits is_utf8 chars object_outcome outcome
one_anchor_in_two_resources = refl

-- ---- two that refer to each other, before and after they are bundled
loop_in_a_registry : replied [] 100 10000 (
    put (codes "https://ex.org/root") (codes "{\"$ref\":\"b\"}")
    ∷ put (codes "https://ex.org/b") (codes "{\"$ref\":\"root\"}")
    ∷ bundled_from (codes "https://ex.org/root")
    ∷ validate (codes "https://ex.org/root") (codes "1") ∷ [])
    ≡ was (stored (codes "https://ex.org/root") false)
    ∷ was (stored (codes "https://ex.org/b") false)
    ∷ was (bundled (codes "{\"$defs\":{\"https://ex.org/b\":{\"$id\":\"https://ex.org/b\",\"$ref\":\"root\"}},\"$id\":\"https://ex.org/root\",\"$ref\":\"b\"}"))
    ∷ gave (codes "Loop") None ∷ []
unfolding serde_json_on_literals digits is_utf8 chars object_outcome outcome
loop_in_a_registry = refl

loop_in_a_bundle : replied [] 100 10000 (
    put (codes "https://ex.org/any") (codes "{\"$defs\":{\"https://ex.org/b\":{\"$id\":\"https://ex.org/b\",\"$ref\":\"root\"}},\"$id\":\"https://ex.org/root\",\"$ref\":\"b\"}")
    ∷ validate (codes "https://ex.org/root") (codes "1") ∷ [])
    ≡ was (stored (codes "https://ex.org/root") false) ∷ gave (codes "Loop") None ∷ []
unfolding serde_json_on_literals digits is_utf8 chars object_outcome outcome
loop_in_a_bundle = refl

bundle_of_one : replied [] 100 10000 (put (codes "https://ex.org/s") (codes "{}") ∷ bundled_from (codes "https://ex.org/s") ∷ [])
    ≡ was (stored (codes "https://ex.org/s") false) ∷ was (bundled (codes "{\"$id\":\"https://ex.org/s\"}")) ∷ []
unfolding serde_json_on_literals digits is_utf8 chars object_outcome outcome
bundle_of_one = refl

-- ---- what a bundle is by itself
bundled_parts_alone : replied [] 100 10000 (
    put (codes "urn:x") (codes "{\"$defs\":{\"https://ex.org/b\":{\"$id\":\"https://ex.org/b\",\"type\":\"integer\"}},\"$id\":\"https://ex.org/root\",\"properties\":{\"a\":{\"$ref\":\"b\"}}}")
    ∷ validate (codes "https://ex.org/root") (codes "{\"a\":\"x\"}") ∷ [])
    ≡ was (stored (codes "https://ex.org/root") false)
    ∷ was (validated (codes "{\"errors\":[{\"absoluteKeywordLocation\":\"https://ex.org/root#/properties\",\"error\":\"properties is not met\",\"instanceLocation\":\"\",\"keywordLocation\":\"/properties\"},{\"absoluteKeywordLocation\":\"https://ex.org/root#/properties/a/$ref\",\"error\":\"$ref is not met\",\"instanceLocation\":\"/a\",\"keywordLocation\":\"/properties/a/$ref\"},{\"absoluteKeywordLocation\":\"https://ex.org/b#/type\",\"error\":\"type is not met\",\"instanceLocation\":\"/a\",\"keywordLocation\":\"/properties/a/$ref/type\"}],\"valid\":false}")) ∷ []
unfolding serde_json_on_literals digits is_utf8 chars object_outcome outcome
bundled_parts_alone = refl

nested_bundle : replied [] 100 10000 (
    put (codes "https://ex.org/root") (codes "{\"$ref\":\"b\"}")
    ∷ put (codes "https://ex.org/b") (codes "{\"const\":[[[[[[[[[[[[[[[[[[[[[[[[[[[[[[[[[[[[[[[[[[[[[[[[[[[[[[[[[[[[[[[[[[[[[[[[[[[[[[[[[[[[[[[[[[[[[[[[[[[[[[[[[[[[[[[[[[[[[]]]]]]]]]]]]]]]]]]]]]]]]]]]]]]]]]]]]]]]]]]]]]]]]]]]]]]]]]]]]]]]]]]]]]]]]]]]]]]]]]]]]]]]]]]]]]]]]]]]]]]]]]]]]]]]]]]]]]}")
    ∷ bundled_from (codes "https://ex.org/root") ∷ [])
    ≡ was (stored (codes "https://ex.org/root") false)
    ∷ was (stored (codes "https://ex.org/b") false)
    ∷ was (bundled (codes "{\"$defs\":{\"https://ex.org/b\":{\"$id\":\"https://ex.org/b\",\"const\":[[[[[[[[[[[[[[[[[[[[[[[[[[[[[[[[[[[[[[[[[[[[[[[[[[[[[[[[[[[[[[[[[[[[[[[[[[[[[[[[[[[[[[[[[[[[[[[[[[[[[[[[[[[[[[[[[[[[[]]]]]]]]]]]]]]]]]]]]]]]]]]]]]]]]]]]]]]]]]]]]]]]]]]]]]]]]]]]]]]]]]]]]]]]]]]]]]]]]]]]]]]]]]]]]]]]]]]]]]]]]]]]]]]]]]]]]]}},\"$id\":\"https://ex.org/root\",\"$ref\":\"b\"}")) ∷ []
unfolding serde_json_on_literals digits is_utf8 chars object_outcome outcome
nested_bundle = refl

bundle_nested_too_deep : replied [] 100 10000 (
    put (codes "https://ex.org/root") (codes "{\"$ref\":\"b\"}")
    ∷ put (codes "https://ex.org/b") (codes "{\"const\":[[[[[[[[[[[[[[[[[[[[[[[[[[[[[[[[[[[[[[[[[[[[[[[[[[[[[[[[[[[[[[[[[[[[[[[[[[[[[[[[[[[[[[[[[[[[[[[[[[[[[[[[[[[[[[[[[[[[[[]]]]]]]]]]]]]]]]]]]]]]]]]]]]]]]]]]]]]]]]]]]]]]]]]]]]]]]]]]]]]]]]]]]]]]]]]]]]]]]]]]]]]]]]]]]]]]]]]]]]]]]]]]]]]]]]]]]]]]}")
    ∷ bundled_from (codes "https://ex.org/root") ∷ [])
    ≡ was (stored (codes "https://ex.org/root") false)
    ∷ was (stored (codes "https://ex.org/b") false)
    ∷ gave (codes "BundleTooLarge") None ∷ []
unfolding serde_json_on_literals digits is_utf8 chars object_outcome outcome
bundle_nested_too_deep = refl

-- ---- where patterns match
pattern_matches : replied_matching (
    put (codes "https://ex.org/s") (codes "{\"pattern\":\"a+\"}")
    ∷ validate (codes "https://ex.org/s") (codes "\"xaay\"")
    ∷ put (codes "https://ex.org/s") (codes "{\"pattern\":\"(?=a)\"}")
    ∷ validate (codes "https://ex.org/s") (codes "\"xaay\"") ∷ [])
    ≡ was (stored (codes "https://ex.org/s") false)
    ∷ was (validated (codes "{\"annotations\":[],\"valid\":true}"))
    ∷ gave (codes "BadPattern") None
    ∷ was (validated (codes "{\"annotations\":[],\"valid\":true}")) ∷ []
unfolding serde_json_on_literals digits is_utf8 chars object_outcome outcome regex_on_literals find_str first_from is_boundary has_bytes_at attempt rounds
pattern_matches = refl

-- ---- what a URI reaches
reached_documents : reached ((codes "https://ex.org/p", codes "{}") ∷ (codes "https://ex.org/q", codes "{}") ∷ (codes "https://ex.org/r", codes "{}") ∷ (codes "https://ex.org/s", codes "{\"$defs\":{\"u\":{\"$ref\":\"q\"},\"v\":{\"$ref\":\"p\"}}}") ∷ []) (codes "https://ex.org/s")
    ≡ Some (codes "https://ex.org/p" ∷ codes "https://ex.org/q" ∷ codes "https://ex.org/s" ∷ [])
unfolding serde_json_on_literals digits is_utf8 chars
reached_documents = refl

-- ---- the limits on bytes, at small numbers
body_that_fits : body_within (record limits { body_bytes = 4 }) (codes "null") ≡ Ok null
unfolding serde_json_on_literals is_utf8 chars
body_that_fits = refl

body_too_large : body_within (record limits { body_bytes = 3 }) (codes "null") ≡ Err too_large
body_too_large = refl

bundle_that_fits : value_within_limits (record limits { bundle_bytes = 4 }) null ≡ Ok null
unfolding digits is_utf8 chars
bundle_that_fits = refl

bundle_of_too_many_bytes : value_within_limits (record limits { bundle_bytes = 3 }) null ≡ Err bundle_too_large
unfolding digits is_utf8 chars
bundle_of_too_many_bytes = refl
