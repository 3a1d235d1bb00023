use Rattle.std.proofs.Common.{◌++◌, ap, sym, ◌∙◌}
use Rattle.std.proofs.lemmas.List.{take_all}
use Rattle.stored_documents.specs.Claims.{claims_in, claims_of, own_claims}
use Rattle.stored_documents.specs.SharedStored.{stored_documents}
use Rattle.stored_documents.specs.StoredDocuments.{stored_view}
use Rattle.stored_documents.proofs.MadeClaims.{claims_of_taken, none_to_make}
use Rattle.stored_documents.proofs.claims.claims_to_make.Goals as goal

pub loop-document-init : goal.loop-document-init
loop-document-init c = ap claims_in c.new-new_claims.ensures.items ∙ none_to_make

pub loop-document-preserved : goal.loop-document-preserved
loop-document-preserved c =
    let l = c.loop-document in
    let own = own_claims (stored_view c.document-item.result.value) in
    c.in_ok-push_claims.ensures
    ∙ ap (λ ps. ps ++ own) l.invariant
    ∙ sym (claims_of_taken c.args.documents.now l.document-index c.document-item.result c.loop-document-test.true c.document-item.is)

pub returns : goal.returns
returns c =
    c.loop-document.invariant ∙ ap (λ ss. claims_of (stored_documents ss)) (take_all c.loop-document.document-index c.args.documents.now c.loop-document-test.false)
