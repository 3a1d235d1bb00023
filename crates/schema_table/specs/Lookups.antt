-- What is found by URI and by name.
use Rattle.std.specs.Prelude.{List, [], Bool, ◌&&◌, Option, drop, option_map}
use Rattle.definitions.specs.Values.{Text, Value, same_text}
use Rattle.definitions.specs.Schemas.{Schema}
use Rattle.locations.specs.Hops.{Hop, follow, hop_tokens}
use Rattle.schema_table.specs.Gathering.{Mark}

-- the root of a resource with this URI
abbrev pub root_schema : Text → Value → Schema
root_schema uri v = record { resource = uri; pointer = []; value = v }

unfoldable pub root_at : Text → List Hop → Value → Option Schema
root_at uri way root = option_map (root_schema uri) (follow way root)

-- the schema that has an anchor
unfoldable pub marked_schema : Value → Mark → Option Schema
marked_schema root m = option_map (λ v. record { resource = m.resource; pointer = hop_tokens (drop m.start m.way); value = v }) (follow m.way root)

abbrev pub has_mark : Text → Text → Mark → Bool
has_mark uri name m = same_text uri m.resource && same_text name m.name

abbrev pub has_dynamic_mark : Text → Text → Mark → Bool
has_dynamic_mark uri name m = m.dynamic && has_mark uri name m
