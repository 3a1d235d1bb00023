use Rattle.std.proofs.Common.{◌≡◌, true, map, take, string_bytes}
use Rattle.std.specs.List.{list_all}
use Rattle.definitions.specs.Patterns.{is_read}
use Rattle.schema_scan.proofs.pattern_table.built_patterns.Given as goal

abbrev pub invariant-loop-text : goal.invariant-loop-text
invariant-loop-text l =
    record {
      built : l.patterns.items ≡ map string_bytes (take l.text-index l.texts);
      read : list_all is_read (map string_bytes (take l.text-index l.texts)) ≡ true;
    }
