-- An order of values, by which equal values stand side by side.
use Rattle.std.specs.Prelude.{ℕ}
use Rattle.std.specs.Cmp.Lexicographic.{slice_cmp}
use Rattle.std.specs.Ordering.{bool_cmp, int_cmp, nat_cmp, ordering_then}
use Rattle.std.specs.declared.cmp.Ordering.{Ordering}
use Rattle.std.specs.declared.cmp.Ordering.TheVariants.{Less, Equal, Greater}
use Rattle.definitions.specs.Values.{Value, null, boolean, integer, string, array, object, Elements, no_elements, element, Members, no_members, member}

-- the place of the value's kind among the kinds
abbrev pub kind : Value → ℕ
kind null = 0
kind (boolean b) = 1
kind (integer z) = 2
kind (string s) = 3
kind (array vs) = 4
kind (object ms) = 5

-- by kind, and within one by content: texts by their bytes, arrays by their elements, objects by their names and values
abbrev mutual
  pub compared : Value → Value → Ordering
  compared (boolean b) (boolean c) = bool_cmp b c
  compared (integer y) (integer z) = int_cmp y z
  compared (string s) (string t) = slice_cmp nat_cmp s t
  compared (array us) (array vs) = compared_elements us vs
  compared (object ls) (object ms) = compared_members ls ms
  compared v w = nat_cmp (kind v) (kind w)

  pub compared_elements : Elements → Elements → Ordering
  compared_elements no_elements no_elements = Equal
  compared_elements no_elements (element v vs) = Less
  compared_elements (element u us) no_elements = Greater
  compared_elements (element u us) (element v vs) = ordering_then (compared u v) (compared_elements us vs)

  pub compared_members : Members → Members → Ordering
  compared_members no_members no_members = Equal
  compared_members no_members (member m v ms) = Less
  compared_members (member l u ls) no_members = Greater
  compared_members (member l u ls) (member m v ms) =
      ordering_then (slice_cmp nat_cmp l m) (ordering_then (compared u v) (compared_members ls ms))
