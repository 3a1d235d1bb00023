use Rattle.std.proofs.Common.{refl, sym, ap, ◌∙◌}
use Rattle.definitions.specs.Registries.{is_in_library}
use Rattle.definitions.specs.Schemas.{Document}
use Rattle.stored_documents.specs.SharedStored.{stored_documents}
use Rattle.stored_documents.specs.StoredDocuments.{stored_view}
use Rattle.tenant_documents.specs.Registries.{registry_view}
use Rattle.tenant_documents.proofs.StoredLists.{any_stored, none_more}
use Rattle.tenant_documents.proofs.registry.Registry.owns_any.Goals as goal

pub loop-document-init : goal.loop-document-init
unfolding stored_documents
loop-document-init c = refl

pub returns-then-branch-clause-ok : goal.returns-then-branch-clause-ok
returns-then-branch-clause-ok c =
    let g = registry_view c.args.self.now in
    let named = c.canonical.ensures ∙ ap (λ s. (stored_view s).canonical) c.deref.ensures in
    sym (any_stored (λ (d : Document). is_in_library g d.canonical) c.args.documents.now c.loop-document.document-index c.document-item.result c.loop-document-test.true c.document-item.is
    (ap (is_in_library g) (sym named) ∙ sym c.in_ok-is_in_library.ensures ∙ c.if-branch.true))

pub loop-document-preserved : goal.loop-document-preserved
loop-document-preserved c =
    let g = registry_view c.args.self.now in
    let named = c.canonical.ensures ∙ ap (λ s. (stored_view s).canonical) c.deref.ensures in
    none_more (λ (d : Document). is_in_library g d.canonical) c.args.documents.now c.loop-document.document-index c.document-item.result c.loop-document-test.true c.document-item.is
    c.loop-document.invariant (ap (is_in_library g) (sym named) ∙ sym c.in_ok-is_in_library.ensures ∙ c.if-branch.false)
