use Rattle.std.proofs.Common.{◌++◌, ◌∷◌, [], Bor, map, take, ap, ap₂, sym, ◌∙◌}
use Rattle.std.proofs.lemmas.List.{map-append}
use Rattle.definitions.specs.Documents.{canonicals}
use Rattle.definitions.specs.Schemas.{Document}
use Rattle.definitions.specs.Values.{Text}
use Rattle.stored_documents.specs.SharedStored.{stored_documents}
use Rattle.stored_documents.specs.StoredDocuments.{stored_view}
use Rattle.tenant_documents.proofs.StoredLists.{none_stored, stored_more}
use Rattle.tenant_documents.proofs.batch_uris.canonical_uris.Goals as goal

pub loop-document-init : goal.loop-document-init
loop-document-init c = ap (map (λ (t : Bor Text). t.now)) c.in_ok-uris.ensures.items ∙ ap canonicals (sym none_stored)

pub loop-document-preserved : goal.loop-document-preserved
loop-document-preserved c =
    let before = stored_documents (take c.loop-document.document-index c.args.documents.now) in
    let here = stored_view c.document-item.result.value in
    ap (map (λ (t : Bor Text). t.now)) c.in_ok-push.ensures.items
    ∙ map-append (λ (t : Bor Text). t.now) c.loop-document.uris.items (c.canonical.result ∷ [])
    ∙ ap₂ (λ us u. us ++ u ∷ []) c.loop-document.invariant (c.canonical.ensures ∙ ap (λ s. (stored_view s).canonical) c.deref.ensures)
    ∙ sym (map-append (λ (d : Document). d.canonical) before (here ∷ []))
    ∙ ap canonicals (sym (stored_more c.args.documents.now c.loop-document.document-index c.document-item.result c.loop-document-test.true c.document-item.is))
