-- What a scanned document means: the text of the base that it stands under, and its value.
use Rattle.std.specs.Prelude.{string_bytes}
use Rattle.definitions.specs.Values.{Text, Value}
use Rattle.json_doc.specs.Docs.{value}
use Rattle.schema_scan.specs.declared.scanned.Scanned.{Scanned}

unfoldable pub scanned_base : Scanned → Text
scanned_base s = string_bytes s.base

unfoldable pub scanned_value : Scanned → Value
scanned_value s = value s.document.now
