use Rattle.std.proofs.Common.{◌≡◌, ◌≢◌, Ok, string_bytes, ap, sym, ◌∙◌}
use Rattle.std.proofs.lemmas.Result.{err_from_is_err_and}
use Rattle.definitions.specs.Resolution.{base_form}
use Rattle.definitions.specs.Uris.{recompose}
use Rattle.faults.specs.View.{fault_view}
use Rattle.faults.specs.declared.Fault.{Fault}
use Rattle.faults.specs.declared.Fault.TheVariants.{NoRoom}
use Rattle.json_doc.specs.Docs.{value}
use Rattle.shared_cache.specs.Refusals.{Refuses}
use Rattle.tenant_documents.specs.Puts.{RefusesUnder}
use Rattle.tenant_documents.proofs.Refusals.{for_each_fault, err_more}
use Rattle.tenant_documents.proofs.SentDocuments.{no_room_under, bad_base_under, not_compiled_under}
use Rattle.tenant_documents.proofs.accepting.accept_document.Goals as goal

pub returns-in_err-base-clause-err : goal.returns-in_err-base-clause-err
returns-in_err-base-clause-err c =
    let p = err_from_is_err_and c.from_residual.result c.from_residual.ensures.1 in
    let form = base_form c.args.uri.now in
    let v = value c.args.document.now in
    rw (p.1, p.2) (for_each_fault (RefusesUnder form v) c.in_err-base.field-0.0 (λ other. bad_base_under form v (fault_view c.in_err-base.field-0.0) (c.in_err-base.ensures.err other)) (no_room_under form v))

pub returns-clause-err : goal.returns-clause-err
returns-clause-err c =
    let form = base_form c.args.uri.now in
    let base = recompose c.split.result in
    let v = value c.args.document.now in
    let same : string_bytes c.in_ok-base.base ≡ base = sym (c.split.ensures.recomposes ∙ c.as_str.ensures.value) in
    err_more (λ (f : Fault). f ≢ NoRoom → Refuses base v (fault_view f)) (λ (f : Fault). RefusesUnder form v (fault_view f)) c.of.result
    (λ f why. for_each_fault (RefusesUnder form v) f
    (λ other. not_compiled_under form base v (fault_view f) (c.in_ok-base.ensures.ok ∙ ap (λ t. Ok t) same) (why other)) (no_room_under form v))
    c.of.ensures.err
