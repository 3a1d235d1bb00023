use Rattle.std.proofs.Common.{◌≡◌, map, length, string_bytes, Contains}
use Rattle.schema_scan.specs.Descents.{pointed_schema}
use Rattle.schema_scan.specs.CompiledDocuments.{compiled_schemas}
use Rattle.schema_scan.specs.Locateds.{located_view}
use Rattle.schema_scan.proofs.compiled.Compiled.at_pointer.Given as goal

abbrev pub invariant-loop-keyword : goal.invariant-loop-keyword
invariant-loop-keyword l = record {
  stands : Contains (compiled_schemas l.self) (located_view l.here);
  leads : pointed_schema (map string_bytes l.fn.tokens) (located_view l.fn.from) ≡ pointed_schema (map string_bytes l.left) (located_view l.here);
}

abbrev pub decreases-loop-keyword : goal.decreases-loop-keyword
decreases-loop-keyword l = length l.left
