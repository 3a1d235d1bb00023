use Rattle.std.proofs.Common.{Bor, map, sym, ap, ◌∙◌}
use Rattle.definitions.specs.Batches.{repeats}
use Rattle.definitions.specs.Reach.{least}
use Rattle.definitions.specs.Values.{Text}
use Rattle.definition_laws.proofs.AcceptedBatches.{unrepeated}
use Rattle.linker.specs.ListedDocuments.{listed_documents}
use Rattle.stored_documents.specs.DocumentLists.{documents_in}
use Rattle.stored_documents.specs.SharedStored.{stored_documents}
use Rattle.tenant_documents.specs.Registries.{registry_view}
use Rattle.tenant_documents.proofs.BatchClaims.{taken_are_claimed}
use Rattle.tenant_documents.proofs.KeptRegistries.{registry_both}
use Rattle.tenant_documents.proofs.StoredLists.{each_distinct}
use Rattle.tenant_documents.proofs.registry.Registry.taken_together.Goals as goal

pub returns-clause-ok : goal.returns-clause-ok
unfolding registry_view
returns-clause-ok c =
    let r = c.args.self.now in
    let ss = c.args.documents.now in
    let es = stored_documents ss in
    c.in_ok-least_repeat.ensures
    ∙ ap (λ us. least (repeats us)) (ap (map (λ (t : Bor Text). t.now)) c.deref.ensures.value ∙ c.in_ok-uris.ensures.ok)
    ∙ sym (taken_are_claimed (documents_in r.documents) (listed_documents r.library.value) es (registry_both r) (unrepeated es c.requires.once) c.requires.unowned (each_distinct ss))
