use Rattle.std.proofs.Common.{◌≡◌, ◌≢◌, Ok, string_bytes, ap, sym, ◌∙◌}
use Rattle.std.proofs.lemmas.Result.{err_from_is_err_and}
use Rattle.definitions.specs.Uris.{recompose}
use Rattle.faults.specs.View.{fault_view}
use Rattle.faults.specs.declared.Fault.{Fault}
use Rattle.faults.specs.declared.Fault.TheVariants.{NoRoom}
use Rattle.json_doc.specs.Docs.{value}
use Rattle.shared_cache.specs.Refusals.{Refuses}
use Rattle.tenant_documents.specs.Puts.{IsRefused}
use Rattle.tenant_documents.proofs.Refusals.{for_each_fault, err_more}
use Rattle.tenant_documents.proofs.SentDocuments.{for_room, bad_base, bad_body, not_compiled}
use Rattle.tenant_documents.proofs.accepting.accept.Goals as goal

pub returns-in_err-base-clause-err : goal.returns-in_err-base-clause-err
returns-in_err-base-clause-err c =
    let p = err_from_is_err_and c.from_residual.result c.from_residual.ensures.1 in
    let uri = c.args.uri.now in
    let body = c.args.body.now in
    rw (p.1, p.2) (for_each_fault (IsRefused uri body) c.in_err-base.field-0.0 (λ other. bad_base uri body (fault_view c.in_err-base.field-0.0) (c.in_err-base.ensures.err other)) (for_room uri body))

pub returns-in_err-document-clause-err : goal.returns-in_err-document-clause-err
returns-in_err-document-clause-err c =
    let p = err_from_is_err_and c.from_residual-in_err-document.result c.from_residual-in_err-document.ensures.1 in
    let uri = c.args.uri.now in
    let body = c.args.body.now in
    rw (p.1, p.2) (for_each_fault (IsRefused uri body) c.in_err-document.field-0.0
    (λ other. bad_body uri body (string_bytes c.in_ok-base.base) (fault_view c.in_err-document.field-0.0) c.in_ok-base.ensures.ok (c.in_err-document.ensures.err other)) (for_room uri body))

pub returns-clause-err : goal.returns-clause-err
returns-clause-err c =
    let uri = c.args.uri.now in
    let body = c.args.body.now in
    let base = recompose c.split.result in
    let document = value c.in_ok-document.document in
    let same : string_bytes c.in_ok-base.base ≡ base = sym (c.split.ensures.recomposes ∙ c.as_str.ensures.value) in
    err_more (λ (f : Fault). f ≢ NoRoom → Refuses base document (fault_view f)) (λ (f : Fault). IsRefused uri body (fault_view f)) c.of.result
    (λ f why. for_each_fault (IsRefused uri body) f
    (λ other. not_compiled uri body base document (fault_view f) (c.in_ok-base.ensures.ok ∙ ap (λ t. Ok t) same) c.in_ok-document.ensures.ok (why other)) (for_room uri body))
    c.of.ensures.err
