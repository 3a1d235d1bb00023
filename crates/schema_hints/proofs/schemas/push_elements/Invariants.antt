use Rattle.definitions.specs.Values.{Value}
use Rattle.json_doc.specs.Docs.{value}
use Rattle.schema_hints.specs.HintViews.{AreSchemas}
use Rattle.schema_hints.specs.SchemaPlaces.{ElementsAreSchemas}
use Rattle.schema_hints.proofs.schemas.push_elements.Given as goal

abbrev pub invariant-loop-index : goal.invariant-loop-index
invariant-loop-index l = (d : Value) → ElementsAreSchemas d l.location (value l.list) → AreSchemas d l.initial.found.items → AreSchemas d l.found.items
