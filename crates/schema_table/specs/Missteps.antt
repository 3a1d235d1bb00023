-- What is wrong with the values of a document's keywords, in the order of a walk: each schema's own keywords, and then
-- its subschemas. Read off the values alone.
use Rattle.std.specs.Prelude.{ℕ, ◌+◌, List, [], ◌∷◌, ◌++◌, Bool, false, ◌||◌, not, if◌then◌else◌, map, decimal}
use Rattle.definitions.specs.Values.{Text, Value, array, object, Elements, no_elements, element, Members, no_members, member}
use Rattle.definitions.specs.Pointers.{Pointer, pointer_text}
use Rattle.definitions.specs.Faults.{Fault, bad_keyword, bad_id, bad_anchor}
use Rattle.definitions.specs.Faults as faults
use Rattle.definitions.specs.Shapes.{Shape, has_shape, is_anchor_name, identifier, anchor_name, dialect, one_schema, schema_list, schema_map}
use Rattle.definitions.specs.Scanning.{is_id, is_dialect}
use Rattle.keywords.specs.Rows.{shape_named}
use Rattle.schema_table.specs.Spots.{resource_of, opens_resource}

pub data Misstep : Type 0 where
  -- a keyword's value has a wrong shape: the pointer that leads to the keyword
  wrong_shape : Pointer → Misstep
  wrong_id : Misstep
  wrong_anchor : Misstep
  wrong_dialect : Misstep

-- the fault, where this pointer leads to the value that the walk began at
abbrev pub misstep_fault : Pointer → Misstep → Fault
misstep_fault way (wrong_shape p) = bad_keyword (pointer_text (way ++ p))
misstep_fault way wrong_id = bad_id
misstep_fault way wrong_anchor = bad_anchor
misstep_fault way wrong_dialect = faults.dialect

-- the misstep as seen from the value around, whose member of this name the walk began at
abbrev pub deeper : Text → Misstep → Misstep
deeper name (wrong_shape p) = wrong_shape (name ∷ p)
deeper name wrong_id = wrong_id
deeper name wrong_anchor = wrong_anchor
deeper name wrong_dialect = wrong_dialect

abbrev pub below_name : Text → List Misstep → List Misstep
below_name name = map (deeper name)

-- ---- a schema's own keywords; the base is the one around the schema
-- whether the value is as a keyword of this shape asks, in a schema at the root of a resource, or not
abbrev pub is_as_asked : Shape → Text → Bool → Value → Bool
is_as_asked identifier base at_root v = is_id base v
is_as_asked anchor_name base at_root v = is_anchor_name v
is_as_asked dialect base at_root v = is_dialect v || not at_root
is_as_asked shape base at_root v = has_shape shape v

abbrev pub misstep_at : Shape → Text → Misstep
misstep_at identifier name = wrong_id
misstep_at anchor_name name = wrong_anchor
misstep_at dialect name = wrong_dialect
misstep_at shape name = wrong_shape (name ∷ [])

unfoldable pub shape_missteps : Shape → Text → Bool → Text → Value → List Misstep
shape_missteps shape base at_root name v = if is_as_asked shape base at_root v then [] else misstep_at shape name ∷ []

abbrev pub own_missteps : Text → Bool → Members → List Misstep
own_missteps base at_root no_members = []
own_missteps base at_root (member name v ms) = shape_missteps (shape_named name) base at_root name v ++ own_missteps base at_root ms

abbrev mutual
  -- of the schema and those below it
  pub missteps : Text → Bool → Value → List Misstep
  missteps base at_root (object ms) = own_missteps base (at_root || opens_resource (object ms)) ms ++ missteps_below (resource_of base (object ms)) ms
  missteps base at_root _ = []

  pub missteps_below : Text → Members → List Misstep
  missteps_below base no_members = []
  missteps_below base (member name v ms) = below_name name (missteps_at (shape_named name) base v) ++ missteps_below base ms

  -- of the schemas at the value of a keyword of this shape
  pub missteps_at : Shape → Text → Value → List Misstep
  missteps_at one_schema base (object ms) = own_missteps base (false || opens_resource (object ms)) ms ++ missteps_below (resource_of base (object ms)) ms
  missteps_at schema_list base (array vs) = missteps_in_list base 0 vs
  missteps_at schema_map base (object ms) = missteps_in_map base ms
  missteps_at _ _ _ = []

  -- the elements from this index on
  pub missteps_in_list : Text → ℕ → Elements → List Misstep
  missteps_in_list base index no_elements = []
  missteps_in_list base index (element v vs) = below_name (decimal index) (missteps base false v) ++ missteps_in_list base (index + 1) vs

  pub missteps_in_map : Text → Members → List Misstep
  missteps_in_map base no_members = []
  missteps_in_map base (member name v ms) = below_name name (missteps base false v) ++ missteps_in_map base ms

-- of a schema alone
abbrev pub schema_missteps : Text → Bool → Value → List Misstep
schema_missteps base at_root (object ms) = own_missteps base (at_root || opens_resource (object ms)) ms
schema_missteps base at_root _ = []

-- of those below a schema in the resource of this URI
abbrev pub missteps_inside : Text → Value → List Misstep
missteps_inside uri (object ms) = missteps_below uri ms
missteps_inside uri _ = []
