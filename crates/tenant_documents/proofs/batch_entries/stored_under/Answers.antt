use Rattle.std.proofs.Common.{subst}
use Rattle.std.proofs.lemmas.Result.{err_from_is_err_and}
use Rattle.faults.specs.View.{fault_view}
use Rattle.json_doc.specs.Docs.{value}
use Rattle.shared_cache.specs.Refusals.{Refuses}
use Rattle.tenant_documents.proofs.EnteredDocuments.{refuses_under}
use Rattle.tenant_documents.proofs.batch_entries.stored_under.Goals as goal

pub returns-in_err-stored-clause-err : goal.returns-in_err-stored-clause-err
returns-in_err-stored-clause-err c =
    let p = err_from_is_err_and c.from_residual.result c.from_residual.ensures.1 in
    let v = value c.args.document.now in
    let f = fault_view c.in_err-stored.field-0.0 in
    rw (p.1, p.2) (λ other. refuses_under c.args.base.now v f
    (subst (λ b. Refuses b v f) c.split.ensures.recomposes (c.in_err-stored.ensures.err other)))
