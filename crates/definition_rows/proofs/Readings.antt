-- What texts read as, and the text of what was read.
use Rattle.std.proofs.Common.{◌≡◌, refl}
use Rattle.std.specs.Prelude.{codes, None}
use Rattle.std.specs.Fmt.{digits}
use Rattle.std.specs.Str.{is_utf8, chars}
use Rattle.serde_json.proofs.OnLiterals.{serde_json_on_literals}
use Rattle.definition_rows.proofs.Asked.{rewritten, said, refused}

names_in_order : rewritten (codes "{\"b\":1, \"a\":[ ]}") ≡ said (codes "{\"a\":[],\"b\":1}")
unfolding serde_json_on_literals digits is_utf8 chars
names_in_order = refl

the_last_wins : rewritten (codes "{\"a\":1,\"a\":2}") ≡ said (codes "{\"a\":2}")
unfolding serde_json_on_literals digits is_utf8 chars
the_last_wins = refl

greatest : rewritten (codes "18446744073709551615") ≡ said (codes "18446744073709551615")
unfolding serde_json_on_literals digits is_utf8 chars
greatest = refl

least : rewritten (codes "-9223372036854775808") ≡ said (codes "-9223372036854775808")
unfolding serde_json_on_literals digits is_utf8 chars
least = refl

one_more : rewritten (codes "18446744073709551616") ≡ refused (codes "BadNumber") None
unfolding serde_json_on_literals digits is_utf8 chars
one_more = refl

a_float : rewritten (codes "1.0") ≡ refused (codes "BadNumber") None
unfolding serde_json_on_literals digits is_utf8 chars
a_float = refl

replaced_float : rewritten (codes "{\"a\":1.0,\"a\":2}") ≡ said (codes "{\"a\":2}")
unfolding serde_json_on_literals digits is_utf8 chars
replaced_float = refl

a_float_inside : rewritten (codes "{\"a\":[1.0,2]}") ≡ refused (codes "BadNumber") None
unfolding serde_json_on_literals digits is_utf8 chars
a_float_inside = refl

cut_off : rewritten (codes "[1") ≡ refused (codes "BadJson") None
unfolding serde_json_on_literals digits is_utf8 chars
cut_off = refl

nested_enough : rewritten (codes "[[[[[[[[[[[[[[[[[[[[[[[[[[[[[[[[[[[[[[[[[[[[[[[[[[[[[[[[[[[[[[[[[[[[[[[[[[[[[[[[[[[[[[[[[[[[[[[[[[[[[[[[[[[[[[[[[[[[[[[[[[[[[[[]]]]]]]]]]]]]]]]]]]]]]]]]]]]]]]]]]]]]]]]]]]]]]]]]]]]]]]]]]]]]]]]]]]]]]]]]]]]]]]]]]]]]]]]]]]]]]]]]]]]]]]]]]]]]]]]]]]]]]]]]]]]]]]") ≡ said (codes "[[[[[[[[[[[[[[[[[[[[[[[[[[[[[[[[[[[[[[[[[[[[[[[[[[[[[[[[[[[[[[[[[[[[[[[[[[[[[[[[[[[[[[[[[[[[[[[[[[[[[[[[[[[[[[[[[[[[[[[[[[[[[[[]]]]]]]]]]]]]]]]]]]]]]]]]]]]]]]]]]]]]]]]]]]]]]]]]]]]]]]]]]]]]]]]]]]]]]]]]]]]]]]]]]]]]]]]]]]]]]]]]]]]]]]]]]]]]]]]]]]]]]]]]]]]]]]")
unfolding serde_json_on_literals digits is_utf8 chars
nested_enough = refl

nested_too_deep : rewritten (codes "[[[[[[[[[[[[[[[[[[[[[[[[[[[[[[[[[[[[[[[[[[[[[[[[[[[[[[[[[[[[[[[[[[[[[[[[[[[[[[[[[[[[[[[[[[[[[[[[[[[[[[[[[[[[[[[[[[[[[[[[[[[[[[[[]]]]]]]]]]]]]]]]]]]]]]]]]]]]]]]]]]]]]]]]]]]]]]]]]]]]]]]]]]]]]]]]]]]]]]]]]]]]]]]]]]]]]]]]]]]]]]]]]]]]]]]]]]]]]]]]]]]]]]]]]]]]]]]]") ≡ refused (codes "BadJson") None
unfolding serde_json_on_literals digits is_utf8 chars
nested_too_deep = refl
