use Rattle.std.proofs.Common.{◌+◌, length, take, refl, ap, ap₂, sym, ◌∙◌}
use Rattle.std.proofs.lemmas.List.{take_all}
use Rattle.definitions.specs.Documents.{bytes_of}
use Rattle.definitions.specs.Texts.{text}
use Rattle.stored_documents.specs.SharedStored.{stored_documents}
use Rattle.stored_documents.specs.StoredDocuments.{stored_view}
use Rattle.stored_documents.proofs.PutTogether.{fits_sum, stored_bytes_more, stored_bytes_within}
use Rattle.stored_documents.proofs.together.total_length.Goals as goal

pub overflow_add-total : goal.overflow_add-total
overflow_add-total c =
    let i = c.loop-document.document-index in
    let s = c.document-item.result in
    fits_sum _ (bytes_of (stored_documents (take (i + 1) c.args.documents.now))) (bytes_of (stored_documents c.args.documents.now))
    (ap₂ (λ n m. n + m) c.loop-document.invariant (c.length.ensures ∙ ap (λ x. length (text (stored_view x).value)) c.deref.ensures)
    ∙ sym (stored_bytes_more c.args.documents.now i s c.loop-document-test.true c.document-item.is))
    (stored_bytes_within c.args.documents.now (i + 1)) c.requires

pub loop-document-init : goal.loop-document-init
unfolding stored_documents
loop-document-init c = refl

pub loop-document-preserved : goal.loop-document-preserved
loop-document-preserved c =
    let i = c.loop-document.document-index in
    let s = c.document-item.result in
    ap₂ (λ n m. n + m) c.loop-document.invariant (c.length.ensures ∙ ap (λ x. length (text (stored_view x).value)) c.deref.ensures)
    ∙ sym (stored_bytes_more c.args.documents.now i s c.loop-document-test.true c.document-item.is)

pub returns : goal.returns
returns c = c.loop-document.invariant ∙ ap (λ ss. bytes_of (stored_documents ss)) (take_all c.loop-document.document-index c.args.documents.now c.loop-document-test.false)
