-- The first fault of a schema document.
use Rattle.std.proofs.Common.{◌≡◌, refl}
use Rattle.std.specs.Prelude.{codes, Some, None}
use Rattle.std.specs.Fmt.{digits}
use Rattle.std.specs.Str.{is_utf8, chars}
use Rattle.serde_json.proofs.OnLiterals.{serde_json_on_literals}
use Rattle.definition_rows.proofs.Asked.{scanned, refused}

keyword_that_is_no_schema : scanned (codes "https://ex.org/s") (codes "{\"not\":5}")
    ≡ Some (Some (refused (codes "BadKeyword") (Some (codes "/not"))))
unfolding serde_json_on_literals digits is_utf8 chars
keyword_that_is_no_schema = refl

keyword_before_subschema : scanned (codes "https://ex.org/s") (codes "{\"$defs\":{\"d\":{\"type\":\"int\"}},\"allOf\":[]}")
    ≡ Some (Some (refused (codes "BadKeyword") (Some (codes "/allOf"))))
unfolding serde_json_on_literals digits is_utf8 chars
keyword_before_subschema = refl

keyword_below : scanned (codes "https://ex.org/s") (codes "{\"$defs\":{\"d\":{\"type\":\"int\"}}}")
    ≡ Some (Some (refused (codes "BadKeyword") (Some (codes "/$defs/d/type"))))
unfolding serde_json_on_literals digits is_utf8 chars
keyword_below = refl

no_object : scanned (codes "https://ex.org/s") (codes "[]")
    ≡ Some (Some (refused (codes "NotObject") None))
unfolding serde_json_on_literals digits is_utf8 chars
no_object = refl

fragment_in_id : scanned (codes "https://ex.org/s") (codes "{\"$id\":\"a#b\"}")
    ≡ Some (Some (refused (codes "BadId") None))
unfolding serde_json_on_literals digits is_utf8 chars
fragment_in_id = refl

anchor_of_digits : scanned (codes "https://ex.org/s") (codes "{\"$anchor\":\"1\"}")
    ≡ Some (Some (refused (codes "BadAnchor") None))
unfolding serde_json_on_literals digits is_utf8 chars
anchor_of_digits = refl

other_dialect : scanned (codes "https://ex.org/s") (codes "{\"$schema\":\"x:y\"}")
    ≡ Some (Some (refused (codes "Dialect") None))
unfolding serde_json_on_literals digits is_utf8 chars
other_dialect = refl

one_uri_twice : scanned (codes "https://ex.org/s") (codes "{\"$defs\":{\"d\":{\"$id\":\"s\"}}}")
    ≡ Some (Some (refused (codes "DuplicateUri") None))
unfolding serde_json_on_literals digits is_utf8 chars
one_uri_twice = refl

one_anchor_twice : scanned (codes "https://ex.org/s") (codes "{\"$anchor\":\"n\",\"$defs\":{\"d\":{\"$dynamicAnchor\":\"n\"}}}")
    ≡ Some (Some (refused (codes "DuplicateAnchor") None))
unfolding serde_json_on_literals digits is_utf8 chars
one_anchor_twice = refl

one_anchor_in_two_resources : scanned (codes "https://ex.org/s") (codes "{\"$anchor\":\"n\",\"$defs\":{\"d\":{\"$dynamicAnchor\":\"n\",\"$id\":\"e\"}}}")
    ≡ Some None
unfolding serde_json_on_literals digits is_utf8 chars
one_anchor_in_two_resources = refl

nested_enough : scanned (codes "https://ex.org/s") (codes "{\"const\":[[[[[[[[[[[[[[[[[[[[[[[[[[[[[[[[[[[[[[[[[[[[[[[[[[[[[[[[[[[[[[[[[[[[[[[[[[[[[[[[[[[[[[[[[[[[[[[[[[[[[[[[[[[[[[[[[[[[[[[]]]]]]]]]]]]]]]]]]]]]]]]]]]]]]]]]]]]]]]]]]]]]]]]]]]]]]]]]]]]]]]]]]]]]]]]]]]]]]]]]]]]]]]]]]]]]]]]]]]]]]]]]]]]]]]]]]]]]]]}")
    ≡ Some None
unfolding serde_json_on_literals digits is_utf8 chars
nested_enough = refl

nested_too_deep : scanned (codes "https://ex.org/s") (codes "{\"const\":[[[[[[[[[[[[[[[[[[[[[[[[[[[[[[[[[[[[[[[[[[[[[[[[[[[[[[[[[[[[[[[[[[[[[[[[[[[[[[[[[[[[[[[[[[[[[[[[[[[[[[[[[[[[[[[[[[[[[[[[]]]]]]]]]]]]]]]]]]]]]]]]]]]]]]]]]]]]]]]]]]]]]]]]]]]]]]]]]]]]]]]]]]]]]]]]]]]]]]]]]]]]]]]]]]]]]]]]]]]]]]]]]]]]]]]]]]]]]]]]}")
    ≡ Some (Some (refused (codes "TooNested") None))
unfolding serde_json_on_literals digits is_utf8 chars
nested_too_deep = refl

both_anchors_of_one_object : scanned (codes "https://ex.org/s") (codes "{\"$anchor\":\"n\",\"$dynamicAnchor\":\"n\"}")
    ≡ Some None
unfolding serde_json_on_literals digits is_utf8 chars
both_anchors_of_one_object = refl

shape_above_before_below : scanned (codes "https://ex.org/s") (codes "{\"properties\":{\"d\":{\"type\":\"int\"}},\"required\":1}")
    ≡ Some (Some (refused (codes "BadKeyword") (Some (codes "/required"))))
unfolding serde_json_on_literals digits is_utf8 chars
shape_above_before_below = refl

ignored_names : scanned (codes "https://ex.org/s") (codes "{\"$comment\":1,\"properties\":{\"a\":{\"$schema\":5}}}")
    ≡ Some None
unfolding serde_json_on_literals digits is_utf8 chars
ignored_names = refl
