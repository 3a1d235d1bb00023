use Rattle.std.proofs.Common.{◌++◌, ◌∷◌, [], Bor, map, take, ap, ap₂, sym, ◌∙◌}
use Rattle.std.proofs.lemmas.List.{map-append}
use Rattle.definitions.specs.Documents.{canonicals}
use Rattle.definitions.specs.Schemas.{Document}
use Rattle.definitions.specs.Values.{Text}
use Rattle.linker.specs.SharedDocuments.{shared_documents}
use Rattle.schema_scan.specs.CompiledDocuments.{compiled_view}
use Rattle.tenant_documents.proofs.LibraryDocuments.{none_shared, shared_more}
use Rattle.tenant_documents.proofs.library_uris.canonical_uris.Goals as goal

pub loop-document-init : goal.loop-document-init
loop-document-init c = ap (map (λ (t : Bor Text). t.now)) c.in_ok-uris.ensures.items ∙ ap canonicals (sym none_shared)

pub loop-document-preserved : goal.loop-document-preserved
loop-document-preserved c =
    let before = shared_documents (take c.loop-document.document-index c.args.documents.now) in
    let here = compiled_view c.document-item.result.value in
    ap (map (λ (t : Bor Text). t.now)) c.in_ok-push.ensures.items
    ∙ map-append (λ (t : Bor Text). t.now) c.loop-document.uris.items (c.canonical.result ∷ [])
    ∙ ap₂ (λ us u. us ++ u ∷ []) c.loop-document.invariant (c.canonical.ensures ∙ ap (λ d. (compiled_view d).canonical) c.deref.ensures)
    ∙ sym (map-append (λ (d : Document). d.canonical) before (here ∷ []))
    ∙ ap canonicals (sym (shared_more c.args.documents.now c.loop-document.document-index c.document-item.result c.loop-document-test.true c.document-item.is))
