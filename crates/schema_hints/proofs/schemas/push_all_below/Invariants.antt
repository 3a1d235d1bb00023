use Rattle.std.proofs.Common.{Contains}
use Rattle.definitions.specs.Values.{Text, Value, object}
use Rattle.json_doc.specs.Docs.{members_view}
use Rattle.json_doc.specs.Members.{members_left}
use Rattle.json_doc.specs.Docs.{members_value}
use Rattle.schema_hints.specs.HintViews.{AreSchemas}
use Rattle.schema_hints.specs.SchemaPlaces.{IsSchemaAt}
use Rattle.schema_hints.proofs.schemas.push_all_below.Given as goal

abbrev pub invariant-loop-name : goal.invariant-loop-name
invariant-loop-name l =
    record {
      left : (m : Text × Value) → Contains (members_left l.name-iterator) m → Contains (members_value l.members) m;
      schemas : (d : Value) → IsSchemaAt d l.location (object (members_view l.members)) → AreSchemas d l.initial.found.items → AreSchemas d l.found.items;
    }
