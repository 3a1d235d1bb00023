-- Where the schemas of a document stand (JSON Schema 2020-12 Core, 10).
use Rattle.std.specs.Prelude.{ℕ, ◌≡◌, [], ◌∷◌, ◌++◌, Some, Contains, decimal, flat_map, slice_get}
use Rattle.definitions.specs.Bytes.{slash}
use Rattle.definitions.specs.Keywords.{keywords, shape_in}
use Rattle.definitions.specs.Pointers.{escaped_byte}
use Rattle.definitions.specs.Shapes.{one_schema, schema_list, schema_map}
use Rattle.definitions.specs.Values.{Text, Value, elements, members}

-- the location with one token more
abbrev pub extended : Text → Text → Text
extended location token = location ++ slash ∷ flat_map escaped_byte token

-- in the document a schema of this value stands at this location: the document itself, and what stands at a keyword's value,
-- by the keyword's shape
pub data IsSchemaAt : Value → Text → Value → Type 0 where
  root : (document : Value) → IsSchemaAt document [] document
  alone : (document v w : Value) (location name : Text) → IsSchemaAt document location v → Contains (members v) (name, w)
      → shape_in keywords name ≡ one_schema → IsSchemaAt document (extended location name) w
  in_list : (document v ws w : Value) (location name : Text) (i : ℕ) → IsSchemaAt document location v → Contains (members v) (name, ws)
      → shape_in keywords name ≡ schema_list → slice_get (elements ws) i ≡ Some w → IsSchemaAt document (extended (extended location name) (decimal i)) w
  in_map : (document v ws w : Value) (location name key : Text) → IsSchemaAt document location v → Contains (members v) (name, ws)
      → shape_in keywords name ≡ schema_map → Contains (members ws) (key, w) → IsSchemaAt document (extended (extended location name) key) w

-- each element of the value is a schema of the document, below this location by its index
abbrev pub ElementsAreSchemas : Value → Text → Value → Type 0
ElementsAreSchemas document location ws = (i : ℕ) (w : Value) → slice_get (elements ws) i ≡ Some w → IsSchemaAt document (extended location (decimal i)) w

-- each member of the value is a schema of the document, below this location by its name
abbrev pub MembersAreSchemas : Value → Text → Value → Type 0
MembersAreSchemas document location ws = (key : Text) (w : Value) → Contains (members ws) (key, w) → IsSchemaAt document (extended location key) w
