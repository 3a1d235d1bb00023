-- A schema where it stands, as the definitions have it.
use Rattle.definitions.specs.Schemas.{Schema}
use Rattle.json_doc.specs.Docs.{value}
use Rattle.locations.specs.Steps.{tokens}
use Rattle.schema_scan.specs.declared.located.Located.{Located}

abbrev pub located_view : Located → Schema
located_view l = record { resource = l.resource.now; pointer = tokens l.steps.items; value = value l.schema.now }
