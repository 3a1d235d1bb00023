-- JSON values (RFC 8259). Numbers are whole; an object has its names in byte order, each once.
use Rattle.std.specs.Prelude.{ℕ, suc, max, ℤ, pos, negsuc, ◌^◌, List, [], ◌∷◌, Bool, true, false, not, ◌&&◌, if◌then◌else◌, Option, Some, None, nat_lt, option_and_then}
use Rattle.std.specs.Ordering.{int_eq, nat_cmp, is_lt}
use Rattle.std.specs.Cmp.Lexicographic.{slice_cmp}
use Rattle.std.specs.Str.{bytes_eq, is_utf8}

-- the bytes of a text
abbrev pub Text : Type 0
Text = List ℕ

mutual
  pub data Value : Type 0 where
    null : Value
    boolean : Bool → Value
    integer : ℤ → Value
    string : Text → Value
    array : Elements → Value
    object : Members → Value

  pub data Elements : Type 0 where
    no_elements : Elements
    element : Value → Elements → Elements

  pub data Members : Type 0 where
    no_members : Members
    member : Text → Value → Members → Members

-- ---- elements and members as lists
abbrev pub elements_list : Elements → List Value
elements_list no_elements = []
elements_list (element v vs) = v ∷ elements_list vs

abbrev pub members_list : Members → List (Text × Value)
members_list no_members = []
members_list (member n v ms) = (n, v) ∷ members_list ms

abbrev pub to_elements : List Value → Elements
to_elements [] = no_elements
to_elements (v ∷ vs) = element v (to_elements vs)

abbrev pub to_members : List (Text × Value) → Members
to_members [] = no_members
to_members (m ∷ ms) = member m.0 m.1 (to_members ms)

-- the elements of an array, and of another value none
abbrev pub elements : Value → List Value
elements (array vs) = elements_list vs
elements _ = []

-- the members of an object, and of another value none
abbrev pub members : Value → List (Text × Value)
members (object ms) = members_list ms
members _ = []

-- ---- names
abbrev pub same_text : Text → Text → Bool
same_text = bytes_eq

-- the value of the first entry with this name
abbrev pub entry : {X : Type 0} → Text → List (Text × X) → Option X
entry name [] = None
entry name (e ∷ es) = if same_text name e.0 then Some e.1 else entry name es

-- the object's member of this name
abbrev pub get : Text → Value → Option Value
get name v = entry name (members v)

abbrev pub as_string : Value → Option Text
as_string (string s) = Some s
as_string _ = None

-- the text of the object's member of this name
abbrev pub text_at : Text → Value → Option Text
text_at name v = option_and_then as_string (get name v)

-- ---- kinds
abbrev pub is_boolean : Value → Bool
is_boolean (boolean b) = true
is_boolean _ = false

abbrev pub is_integer : Value → Bool
is_integer (integer z) = true
is_integer _ = false

abbrev pub is_string : Value → Bool
is_string (string s) = true
is_string _ = false

abbrev pub is_array : Value → Bool
is_array (array vs) = true
is_array _ = false

abbrev pub is_object : Value → Bool
is_object (object ms) = true
is_object _ = false

-- ---- how deep arrays and objects nest
abbrev mutual
  pub nesting : Value → ℕ
  nesting null = 0
  nesting (boolean b) = 0
  nesting (integer z) = 0
  nesting (string s) = 0
  nesting (array vs) = suc (elements_nesting vs)
  nesting (object ms) = suc (members_nesting ms)

  pub elements_nesting : Elements → ℕ
  elements_nesting no_elements = 0
  elements_nesting (element v vs) = max (nesting v) (elements_nesting vs)

  pub members_nesting : Members → ℕ
  members_nesting no_members = 0
  members_nesting (member n v ms) = max (nesting v) (members_nesting ms)

-- ---- equality, by content (JSON Schema 2020-12 Core, 4.2.2)
abbrev pub same_boolean : Bool → Bool → Bool
same_boolean true b = b
same_boolean false b = not b

abbrev mutual
  pub same : Value → Value → Bool
  same null null = true
  same (boolean b) (boolean c) = same_boolean b c
  same (integer y) (integer z) = int_eq y z
  same (string s) (string t) = same_text s t
  same (array us) (array vs) = same_elements us vs
  same (object ls) (object ms) = same_members ls ms
  same _ _ = false

  pub same_elements : Elements → Elements → Bool
  same_elements no_elements no_elements = true
  same_elements (element u us) (element v vs) = same u v && same_elements us vs
  same_elements _ _ = false

  pub same_members : Members → Members → Bool
  same_members no_members no_members = true
  same_members (member l u ls) (member m v ms) = same_text l m && (same u v && same_members ls ms)
  same_members _ _ = false

-- ---- what every value that is held is like: whole numbers of 64 bits, texts in UTF-8, names in byte order
-- from -2^63 to 2^64 - 1
abbrev pub fits_64_bits : ℤ → Bool
fits_64_bits (pos n) = nat_lt n (2 ^ 64)
fits_64_bits (negsuc n) = nat_lt n (2 ^ 63)

-- the name comes before the first of these
abbrev pub is_before : Text → Members → Bool
is_before name no_members = true
is_before name (member n v ms) = is_lt (slice_cmp nat_cmp name n)

abbrev mutual
  pub is_well_formed : Value → Bool
  is_well_formed null = true
  is_well_formed (boolean b) = true
  is_well_formed (integer z) = fits_64_bits z
  is_well_formed (string s) = is_utf8 s
  is_well_formed (array vs) = are_well_formed vs
  is_well_formed (object ms) = are_well_formed_members ms

  pub are_well_formed : Elements → Bool
  are_well_formed no_elements = true
  are_well_formed (element v vs) = is_well_formed v && are_well_formed vs

  pub are_well_formed_members : Members → Bool
  are_well_formed_members no_members = true
  are_well_formed_members (member n v ms) = is_utf8 n && (is_before n ms && (is_well_formed v && are_well_formed_members ms))
