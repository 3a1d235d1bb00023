-- The schemas of a document in the order of a walk, each with the way to it: a schema before those below it, these in
-- byte order of keywords, lists by index and maps by name.
use Rattle.std.specs.Prelude.{ℕ, ◌+◌, List, [], ◌∷◌, ◌++◌, Bool, nat_le, Option, Some, None, is_some, codes, drop, length}
use Rattle.definitions.specs.Values.{Text, Value, array, object, Elements, no_elements, element, Members, no_members, member, text_at}
use Rattle.definitions.specs.Uris.{without_fragment}
use Rattle.definitions.specs.Resolution.{target_uri}
use Rattle.definitions.specs.Shapes.{Shape, one_schema, schema_list, schema_map}
use Rattle.definitions.specs.Schemas.{Schema}
use Rattle.keywords.specs.Rows.{shape_named}
use Rattle.locations.specs.Hops.{Hop, to_member, to_element, hop_tokens}

-- a schema: the way to it, how many hops of it lead to its resource's root, that resource's URI, and its value
pub record Spot : Type 0 where
  pub way : List Hop
  pub start : ℕ
  pub resource : Text
  pub value : Value

abbrev pub spot_view : Spot → Schema
spot_view s = record { resource = s.resource; pointer = hop_tokens (drop s.start s.way); value = s.value }

abbrev pub at_root : Spot → Bool
at_root s = nat_le (length s.way) s.start

-- Core, 8.2.1: the `$id` that opens a resource
abbrev pub id_of : Value → Option Text
id_of v = text_at (codes "$id") v

abbrev pub opened_uri : Text → Option Text → Text
opened_uri base None = base
opened_uri base (Some id) = without_fragment (target_uri base id)

abbrev pub opened_start : ℕ → ℕ → Option Text → ℕ
opened_start start here None = start
opened_start start here (Some id) = here

unfoldable pub resource_of : Text → Value → Text
resource_of base v = opened_uri base (id_of v)

unfoldable pub opens_resource : Value → Bool
opens_resource v = is_some (id_of v)

unfoldable pub start_of : ℕ → List Hop → Value → ℕ
start_of start way v = opened_start start (length way) (id_of v)

abbrev pub spot_in : List Hop → ℕ → Text → Value → Spot
spot_in way start uri v = record { way = way; start = start; resource = uri; value = v }

abbrev mutual
  -- the schema that stands there, where this is the base around, and those below it
  pub spots : List Hop → ℕ → Text → Value → List Spot
  spots way start base (object ms) =
      spot_in way (start_of start way (object ms)) (resource_of base (object ms)) (object ms)
      ∷ spots_below way (start_of start way (object ms)) (resource_of base (object ms)) ms
  spots way start base v = spot_in way (start_of start way v) (resource_of base v) v ∷ []

  pub spots_below : List Hop → ℕ → Text → Members → List Spot
  spots_below way start uri no_members = []
  spots_below way start uri (member name v ms) = spots_at (shape_named name) (way ++ to_member name ∷ []) start uri v ++ spots_below way start uri ms

  -- the schemas at the value of a keyword of this shape
  pub spots_at : Shape → List Hop → ℕ → Text → Value → List Spot
  spots_at one_schema way start uri (object ms) =
      spot_in way (start_of start way (object ms)) (resource_of uri (object ms)) (object ms)
      ∷ spots_below way (start_of start way (object ms)) (resource_of uri (object ms)) ms
  spots_at one_schema way start uri v = spot_in way (start_of start way v) (resource_of uri v) v ∷ []
  spots_at schema_list way start uri (array vs) = spots_in_list way start uri 0 vs
  spots_at schema_map way start uri (object ms) = spots_in_map way start uri ms
  spots_at _ _ _ _ _ = []

  -- from this index on
  pub spots_in_list : List Hop → ℕ → Text → ℕ → Elements → List Spot
  spots_in_list way start uri i no_elements = []
  spots_in_list way start uri i (element v vs) = spots (way ++ to_element i ∷ []) start uri v ++ spots_in_list way start uri (i + 1) vs

  pub spots_in_map : List Hop → ℕ → Text → Members → List Spot
  spots_in_map way start uri no_members = []
  spots_in_map way start uri (member name v ms) = spots (way ++ to_member name ∷ []) start uri v ++ spots_in_map way start uri ms

-- a schema in the resource of this URI, and those below it
abbrev pub spots_inside : List Hop → ℕ → Text → Value → List Spot
spots_inside way start uri (object ms) = spots_below way start uri ms
spots_inside way start uri v = []

abbrev pub spots_from : List Hop → ℕ → Text → Value → List Spot
spots_from way start uri v = spot_in way start uri v ∷ spots_inside way start uri v
