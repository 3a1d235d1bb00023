-- Schemas at origins.
use Rattle.definitions.specs.Schemas.{Schema}
use Rattle.definitions.specs.Values.{Value}
use Rattle.basic_output.specs.PointerViews.{origin_view}
use Rattle.basic_output.specs.declared.origin.Origin.{Origin}

-- the schema with this value, at this origin
abbrev pub schema_at_origin : Origin → Value → Schema
schema_at_origin o v = record { resource = (origin_view o).0; pointer = (origin_view o).1; value = v }
