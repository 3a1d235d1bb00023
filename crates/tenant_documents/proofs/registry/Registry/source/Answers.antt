use Rattle.std.proofs.Common.{ap, ap₂, ◌∙◌}
use Rattle.definitions.specs.Documents.{documents_of_both}
use Rattle.linker.specs.ListedDocuments.{listed_documents}
use Rattle.stored_documents.specs.DocumentLists.{documents_in}
use Rattle.tenant_documents.specs.Registries.{registry_view}
use Rattle.tenant_documents.proofs.registry.Registry.source.Goals as goal

pub returns : goal.returns
unfolding registry_view
returns c =
    ap₂ documents_of_both
    (ap (λ b. listed_documents b.now) c.new-2.ensures.second ∙ ap listed_documents c.deref.ensures)
    (ap (λ f. documents_in f.documents.now) c.new-2.ensures.first ∙ ap (λ b. documents_in b.now) c.new.ensures)
