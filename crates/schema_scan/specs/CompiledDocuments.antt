-- What a compiled document means: the text of the base that it stands under, and its value.
use Rattle.std.specs.Prelude.{List, string_bytes}
use Rattle.definitions.specs.Values.{Text, Value}
use Rattle.definitions.specs.Schemas.{Schema, Document, document_from, schemas_of}
use Rattle.json_doc.specs.Docs.{value}
use Rattle.schema_scan.specs.PatternTables.{table_patterns}
use Rattle.schema_scan.specs.declared.compiled.Compiled.{Compiled}
use Rattle.schema_table.specs.Gathering.{table_identifiers, table_texts}

unfoldable pub compiled_base : Compiled → Text
compiled_base c = string_bytes c.base

unfoldable pub compiled_value : Compiled → Value
compiled_value c = value c.document

-- its schemas, in the order of a walk
abbrev pub compiled_schemas : Compiled → List Schema
compiled_schemas c = schemas_of (compiled_base c) (compiled_value c)

-- the texts of its schemas' references, in the order of a walk
unfoldable pub compiled_texts : Compiled → List Text
compiled_texts c = table_texts c.table

-- the `$id` of each resource's root, or no text, in the order of a walk
unfoldable pub compiled_identifiers : Compiled → List Text
compiled_identifiers c = table_identifiers c.table

-- the texts of its patterns, by number
abbrev pub compiled_patterns : Compiled → List Text
compiled_patterns c = table_patterns c.pattern_table

abbrev pub compiled_view : Compiled → Document
compiled_view c = document_from (compiled_base c) (compiled_value c)
