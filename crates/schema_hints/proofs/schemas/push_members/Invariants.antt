use Rattle.std.proofs.Common.{Contains}
use Rattle.definitions.specs.Values.{Text, Value, members}
use Rattle.json_doc.specs.Docs.{value}
use Rattle.json_doc.specs.Members.{members_left}
use Rattle.schema_hints.specs.HintViews.{AreSchemas}
use Rattle.schema_hints.specs.SchemaPlaces.{MembersAreSchemas}
use Rattle.schema_hints.proofs.schemas.push_members.Given as goal

abbrev pub invariant-loop-name : goal.invariant-loop-name
invariant-loop-name l =
    record {
      left : (m : Text × Value) → Contains (members_left l.name-iterator) m → Contains (members (value l.map)) m;
      schemas : (d : Value) → MembersAreSchemas d l.location (value l.map) → AreSchemas d l.initial.found.items → AreSchemas d l.found.items;
    }
