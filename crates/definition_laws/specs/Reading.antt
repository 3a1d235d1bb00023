-- What the laws say of the values that are read (RFC 8259).
use Rattle.std.specs.Prelude.{◌≡◌, ℕ, Bool, true, ◌&&◌, Ok, IsTrue, length, nat_le}
use Rattle.definitions.specs.Values.{Text, Value, null, boolean, integer, string, array, object, Elements, no_elements, element, Members, no_members, member, elements_list, is_well_formed}
use Rattle.definitions.specs.Texts.{parsed_value}

-- a value that is read has whole numbers of 64 bits, texts in UTF-8, and each object's names in byte order, each once
abbrev pub ReadValuesAreWellFormed : Type 0
ReadValuesAreWellFormed = (bytes : Text) (v : Value) → parsed_value bytes ≡ Ok v → IsTrue (is_well_formed v)

-- no array in it has more elements than this
abbrev mutual
  pub has_arrays_within : ℕ → Value → Bool
  has_arrays_within n null = true
  has_arrays_within n (boolean b) = true
  has_arrays_within n (integer z) = true
  has_arrays_within n (string s) = true
  has_arrays_within n (array vs) = nat_le (length (elements_list vs)) n && have_arrays_within n vs
  has_arrays_within n (object ms) = members_have_arrays_within n ms

  pub have_arrays_within : ℕ → Elements → Bool
  have_arrays_within n no_elements = true
  have_arrays_within n (element v vs) = has_arrays_within n v && have_arrays_within n vs

  pub members_have_arrays_within : ℕ → Members → Bool
  members_have_arrays_within n no_members = true
  members_have_arrays_within n (member name v ms) = has_arrays_within n v && members_have_arrays_within n ms

-- no array has more elements than the text has bytes
abbrev pub ReadArraysAreShort : Type 0
ReadArraysAreShort = (bytes : Text) (v : Value) → parsed_value bytes ≡ Ok v → IsTrue (has_arrays_within (length bytes) v)
