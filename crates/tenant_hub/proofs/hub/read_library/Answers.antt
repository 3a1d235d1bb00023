use Rattle.std.proofs.lemmas.Result.{IfOk-weaker}
use Rattle.linker.specs.ListedDocuments.{listed_documents}
use Rattle.tenant_hub.proofs.RegisteredDocuments.{library_registered}
use Rattle.tenant_hub.proofs.hub.read_library.Goals as goal

pub returns-in-Some-clause-registered : goal.returns-in-Some-clause-registered
returns-in-Some-clause-registered c = IfOk-weaker c.library_of.result _ _ (λ l e. library_registered c.in-Some.batch.now (listed_documents l) e) c.library_of.ensures.ok
