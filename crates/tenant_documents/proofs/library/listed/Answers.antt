use Rattle.std.proofs.Common.{◌≡◌, [], ap, sym, ◌∙◌, rules}
use Rattle.definitions.specs.Documents.{documents_with_all}
use Rattle.linker.specs.ListedDocuments.{listed_documents}
use Rattle.schema_scan.specs.CompiledDocuments.{compiled_view}
use Rattle.tenant_documents.proofs.LibraryDocuments.{added_last, none_shared}
use Rattle.tenant_documents.proofs.library.listed.Goals as goal

pub loop-document-init : goal.loop-document-init
loop-document-init c = c.new-library.ensures ∙ ap (λ ds. documents_with_all ds []) (sym none_shared)

pub loop-document-preserved : goal.loop-document-preserved
loop-document-preserved c =
    let same : c.in_ok-clone.field-0.value ≡ c.document-item.result.value = search rules in
    added_last c.args.documents.now c.loop-document.document-index c.document-item.result (listed_documents c.loop-document.library) (listed_documents c.add.new.self)
    (compiled_view c.in_ok-clone.field-0.value) c.in_ok-add.field-0 c.loop-document-test.true c.document-item.is
    c.requires.once c.requires.free (ap compiled_view same) c.loop-document.invariant c.in_ok-add.ensures.ok c.in_ok-add.ensures.added
