use Rattle.std.proofs.Common.{◌≡◌, ◌++◌, ◌∷◌, [], map, take, string_bytes, ap, ap₂, sym, ◌∙◌}
use Rattle.std.proofs.lemmas.List.{map-append}
use Rattle.definitions.specs.Schemas.{Document}
use Rattle.schema_scan.specs.CompiledDocuments.{compiled_view}
use Rattle.linker.specs.SharedDocuments.{shared_documents}
use Rattle.definitions.specs.Documents.{canonicals}
use Rattle.linker.proofs.Shared.{shared_more}
use Rattle.linker.proofs.contents.canonical_uris.Goals as goal

pub loop-document-init : goal.loop-document-init
unfolding shared_documents
loop-document-init c = ap (map string_bytes) c.in_ok-uris.ensures.items

pub loop-document-preserved : goal.loop-document-preserved
loop-document-preserved c =
    let before = shared_documents (take c.loop-document.document-index c.args.documents.now) in
    let item : string_bytes c.in_ok-to_owned.field-0 ≡ (compiled_view c.document-item.result.value).canonical =
    c.in_ok-to_owned.ensures.ok ∙ c.canonical.ensures ∙ ap (λ d. (compiled_view d).canonical) c.deref.ensures in
    ap (map string_bytes) c.in_ok-push.ensures.items
    ∙ map-append string_bytes c.loop-document.uris.items (c.in_ok-to_owned.field-0 ∷ [])
    ∙ ap₂ (λ us u. us ++ u ∷ []) c.loop-document.invariant item
    ∙ sym (ap canonicals (shared_more c.args.documents.now c.loop-document.document-index c.document-item.result c.loop-document-test.true c.document-item.is)
    ∙ map-append (λ (d : Document). d.canonical) before (compiled_view c.document-item.result.value ∷ []))
