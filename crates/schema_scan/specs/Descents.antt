-- One step of a pointer: from a schema to one directly below it (JSON Schema 2020-12 Core, 8.2.3).
use Rattle.std.specs.Prelude.{◌≡◌, ◌++◌, List, Option, Some, None, Contains, find}
use Rattle.definitions.specs.Values.{Text, Value, members, same_text}
use Rattle.definitions.specs.Pointers.{Pointer}
use Rattle.definitions.specs.Shapes.{Shape, one_schema, schema_list, schema_map}
use Rattle.definitions.specs.Keywords.{keywords}
use Rattle.definitions.specs.Schemas.{Schema, below, subschemas_by}
use Rattle.definitions.specs.Targets.{schema_at_pointer}
use Rattle.json_doc.specs.Members.{HasNamesInOrder}

-- what the pointer leads to from the schema
unfoldable pub pointed_schema : Pointer → Schema → Option Schema
pointed_schema way s = schema_at_pointer way s

-- from a schema of this value the pointer leads nowhere
abbrev pub LeadsNowhere : Pointer → Value → Type 0
LeadsNowhere way v = (s : Schema) → s.value ≡ v → pointed_schema way s ≡ None

-- from a schema of this value the pointer leads first by these tokens to one directly below, of that value, and then where
-- the rest leads
pub record StepsTo (way : Pointer) (v : Value) (tokens : Pointer) (part : Value) (rest : Pointer) : Type 0 where
  pub begins : way ≡ tokens ++ rest
  pub stands : (s : Schema) → s.value ≡ v → Contains (subschemas_by keywords s) (tokens, below s tokens part)
  pub leads : (s : Schema) → s.value ≡ v → pointed_schema way s ≡ pointed_schema rest (below s tokens part)

-- the shape, if schemas stand in a value of it
abbrev pub schema_shape : Shape → Option Shape
schema_shape one_schema = Some one_schema
schema_shape schema_list = Some schema_list
schema_shape schema_map = Some schema_map
schema_shape _ = None

-- ---- what stands under a name
abbrev pub row : {X : Type 0} → (X → Text) → Text → List X → Option X
row key name xs = find (λ x. same_text name (key x)) xs

abbrev pub name_of : Text × Value → Text
name_of m = m.0

-- the object's member of this name has this value, and its names stand once, in byte order
pub record IsHeld (v : Value) (name : Text) (w : Value) : Type 0 where
  pub ordered : HasNamesInOrder (members v)
  pub found : row name_of name (members v) ≡ Some (name, w)
