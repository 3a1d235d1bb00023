use Rattle.std.proofs.Common.{◌<◌, inl, inr, ap, length, subst, sym, ◌∙◌}
use Rattle.std.proofs.lemmas.Result.{err_from_is_err_and}
use Rattle.definitions.specs.Scanning.{scan_fault}
use Rattle.definitions.specs.Searches.{patterns}
use Rattle.faults.specs.View.{fault_view}
use Rattle.json_doc.specs.Docs.{value}
use Rattle.tenant_documents.proofs.EnteredDocuments.{refuses_under}
use Rattle.tenant_documents.proofs.library_entries.compiled_under.Goals as goal

pub returns-in_err-scanned-clause-err : goal.returns-in_err-scanned-clause-err
returns-in_err-scanned-clause-err c =
    let p = err_from_is_err_and c.from_residual.result c.from_residual.ensures.1 in
    let v = value c.args.document.now in
    rw (p.1, p.2) (λ other. refuses_under c.args.base.now v _ (inl (ap (λ b. scan_fault b v) (sym c.split.ensures.recomposes) ∙ c.in_err-scanned.ensures.err other)))

pub returns-in_err-compiled-clause-err : goal.returns-in_err-compiled-clause-err
returns-in_err-compiled-clause-err c =
    let p = err_from_is_err_and c.from_residual-in_err-compiled.result c.from_residual-in_err-compiled.ensures.1 in
    let v = value c.args.document.now in
    rw (p.1, p.2) (λ other.
    let refused = c.in_err-compiled.ensures.err other in
    refuses_under c.args.base.now v _ (inr (
      ap fault_view refused.0,
      ap (λ b. scan_fault b v) (sym c.split.ensures.recomposes) ∙ c.in_ok-scanned.ensures.sound,
      subst (λ w. 0 < length (patterns w)) c.in_ok-scanned.ensures.ok.1 refused.1,
    )))
