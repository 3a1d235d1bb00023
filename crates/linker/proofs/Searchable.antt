-- Documents among which the one with a resource is found.
use Rattle.std.proofs.Common.{◌≡◌, List, subst}
use Rattle.std.specs.declared.alloc.Global.{Global}
use Rattle.std.specs.declared.rc.Rc.{Rc}
use Rattle.definitions.specs.Schemas.{Document}
use Rattle.definitions.specs.Values.{Text}
use Rattle.schema_scan.specs.declared.compiled.Compiled.{Compiled}
use Rattle.linker.specs.SharedDocuments.{shared_documents}
use Rattle.linker.specs.Visits.{AreSearchable, EmbedAlike}
use Rattle.linker.proofs.LinkFaults.{IsLinked}

pub searchable_as : (xs ys : List (Rc Compiled Global)) (compound : List Document) → xs ≡ ys → AreSearchable (shared_documents xs) compound → AreSearchable (shared_documents ys) compound
searchable_as xs ys compound same searchable = subst (λ zs. AreSearchable (shared_documents zs) compound) same searchable

pub searchable_linked : (ds : List Document) (uri : Text) (compound : List Document) → IsLinked ds uri → EmbedAlike ds compound → AreSearchable ds compound
searchable_linked ds uri compound linked known = record { ascend = linked.ascend; distinct = linked.distinct; known = known }
