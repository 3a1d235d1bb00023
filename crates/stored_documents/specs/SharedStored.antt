-- The documents that a list of shared ones holds.
use Rattle.std.specs.Prelude.{List, map}
use Rattle.std.specs.declared.alloc.Global.{Global}
use Rattle.std.specs.declared.rc.Rc.{Rc}
use Rattle.definitions.specs.Schemas.{Document}
use Rattle.stored_documents.specs.StoredDocuments.{stored_view}
use Rattle.stored_documents.specs.declared.stored.Stored.{Stored}

unfoldable pub stored_documents : List (Rc Stored Global) → List Document
stored_documents ss = map (λ s. stored_view s.value) ss
