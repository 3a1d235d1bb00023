use Rattle.std.proofs.Common.{◌++◌, Bor, map, take, ap, ap₂, sym, ◌∙◌}
use Rattle.definitions.specs.Documents.{resources_of, resource_uris_of}
use Rattle.definitions.specs.Values.{Text}
use Rattle.lemmas.proofs.Lists.{flat_map-push}
use Rattle.stored_documents.specs.SharedStored.{stored_documents}
use Rattle.stored_documents.specs.StoredDocuments.{stored_view}
use Rattle.tenant_documents.proofs.StoredLists.{none_stored, stored_more}
use Rattle.tenant_documents.proofs.batch_uris.resource_uris.Goals as goal

pub loop-document-init : goal.loop-document-init
loop-document-init c = ap (map (λ (t : Bor Text). t.now)) c.new-uris.ensures.items ∙ ap resource_uris_of (sym none_stored)

pub loop-document-preserved : goal.loop-document-preserved
loop-document-preserved c =
    let before = stored_documents (take c.loop-document.document-index c.args.documents.now) in
    let here = stored_view c.document-item.result.value in
    c.in_ok-push_texts.ensures
    ∙ ap₂ (λ us vs. us ++ vs) c.loop-document.invariant (c.resource_uris.ensures ∙ ap (λ s. resources_of (stored_view s)) c.deref.ensures)
    ∙ sym (flat_map-push resources_of before here)
    ∙ ap resource_uris_of (sym (stored_more c.args.documents.now c.loop-document.document-index c.document-item.result c.loop-document-test.true c.document-item.is))
