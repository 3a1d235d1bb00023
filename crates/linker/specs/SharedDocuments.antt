-- The documents that a list of shared ones holds.
use Rattle.std.specs.Prelude.{List, map}
use Rattle.std.specs.declared.alloc.Global.{Global}
use Rattle.std.specs.declared.rc.Rc.{Rc}
use Rattle.definitions.specs.Schemas.{Document}
use Rattle.schema_scan.specs.CompiledDocuments.{compiled_view}
use Rattle.schema_scan.specs.declared.compiled.Compiled.{Compiled}

unfoldable pub shared_documents : List (Rc Compiled Global) → List Document
shared_documents ds = map (λ d. compiled_view d.value) ds
