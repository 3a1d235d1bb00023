use Rattle.std.proofs.Common.{Contains, string_bytes}
use Rattle.definitions.specs.Values.{Text, Value, object}
use Rattle.json_doc.specs.Docs.{members_value, members_view}
use Rattle.json_doc.specs.Members.{members_left}
use Rattle.schema_hints.specs.HintViews.{AreOfSchemas}
use Rattle.schema_hints.specs.SchemaPlaces.{IsSchemaAt}
use Rattle.schema_hints.proofs.finding.Findings.note_schema.Given as goal

abbrev pub invariant-loop-name : goal.invariant-loop-name
invariant-loop-name l =
    record {
      left : (m : Text × Value) → Contains (members_left l.name-iterator) m → Contains (members_value l.place.members.now) m;
      hints : (d : Value) → IsSchemaAt d (string_bytes l.place.location) (object (members_view l.place.members.now)) → AreOfSchemas d l.initial.self.hints.items → AreOfSchemas d l.self.hints.items;
    }
