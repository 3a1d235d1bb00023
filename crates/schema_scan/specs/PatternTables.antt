-- The texts whose patterns a table holds.
use Rattle.std.specs.Prelude.{Bool, List}
use Rattle.definitions.specs.Values.{Text}
use Rattle.schema_scan.specs.TextsAmong.{is_among}
use Rattle.schema_scan.specs.declared.pattern_table.PatternTable.{PatternTable}

unfoldable pub holds_pattern : PatternTable → Text → Bool
holds_pattern t text = is_among t.patterns.items text

-- the texts of its patterns, by number
unfoldable pub table_patterns : PatternTable → List Text
table_patterns t = t.patterns.items
