use Rattle.std.proofs.Common.{◌≡◌, ◌+◌, take, length, ap, sym, subst, ◌∙◌}
use Rattle.std.proofs.lemmas.List.{take_all}
use Rattle.definitions.specs.Documents.{bytes_of}
use Rattle.definitions.specs.Texts.{text}
use Rattle.stored_documents.proofs.PutTogether.{stored_bytes_more}
use Rattle.stored_documents.specs.SharedStored.{stored_documents}
use Rattle.stored_documents.specs.StoredDocuments.{stored_view}
use Rattle.tenant_documents.specs.Puts.{IsSum}
use Rattle.tenant_documents.proofs.StoredLists.{none_stored}
use Rattle.tenant_documents.proofs.batch_sizes.added_bytes.Goals as goal

pub loop-document-init : goal.loop-document-init
loop-document-init c = ap bytes_of none_stored

pub loop-document-preserved : goal.loop-document-preserved
loop-document-preserved c =
    let before = bytes_of (stored_documents (take c.loop-document.document-index c.args.documents.now)) in
    let own : c.length.result ≡ length (text (stored_view c.document-item.result.value).value) =
    c.length.ensures ∙ ap (λ s. length (text (stored_view s).value)) c.deref.ensures in
    subst (IsSum c.sum_with-total.result)
    (ap (λ n. before + n) own ∙ sym (stored_bytes_more c.args.documents.now c.loop-document.document-index c.document-item.result c.loop-document-test.true c.document-item.is))
    (c.sum_with-total.ensures before c.loop-document.invariant)

pub returns : goal.returns
returns c =
    subst (λ ss. IsSum c.loop-document.total (bytes_of (stored_documents ss))) (take_all c.loop-document.document-index c.args.documents.now c.loop-document-test.false)
    c.loop-document.invariant
