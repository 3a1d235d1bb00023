-- The texts by which resources of documents are told.
use Rattle.std.specs.Prelude.{◌++◌, List}
use Rattle.std.specs.declared.alloc.Global.{Global}
use Rattle.std.specs.declared.rc.Rc.{Rc}
use Rattle.definitions.specs.Scanning.{resource_uris}
use Rattle.definitions.specs.Values.{Text}
use Rattle.schema_scan.specs.CompiledDocuments.{compiled_identifiers, compiled_schemas}
use Rattle.schema_scan.specs.declared.compiled.Compiled.{Compiled}

-- the URIs of a document's resources, and the `$id`s of their roots
abbrev pub identifying_texts : Rc Compiled Global → List Text
identifying_texts d = resource_uris (compiled_schemas d.value) ++ compiled_identifiers d.value
