use Rattle.std.proofs.Common.{◌≡◌, ◌<◌, None, Ok, length, sym, ap, ◌∙◌, subst}
use Rattle.std.proofs.lemmas.Result.{IfErr-weaker}
use Rattle.definitions.specs.Scanning.{scan_fault}
use Rattle.definitions.specs.Searches.{patterns}
use Rattle.faults.specs.View.{fault_view}
use Rattle.json_doc.specs.Docs.{value}
use Rattle.schema_scan.specs.Scans.{scanned_value}
use Rattle.checks.specs.Judgements.{accepted_schema}
use Rattle.checks.proofs.Refusals.{both, is_accepted, is_refused}
use Rattle.file_checks.proofs.documents.accept.Goals as goal

pub returns-clause-ok : goal.returns-clause-ok
returns-clause-ok c =
    let base = c.args.base.now in
    let w = scanned_value c.in_ok-scanned.scanned in
    let e : w ≡ value c.args.schema.now = c.in_ok-scanned.ensures.ok.1 in
    let none : scan_fault base w ≡ None = ap (scan_fault base) e ∙ ap (λ b. scan_fault b (value c.args.schema.now)) (sym c.split.ensures.recomposes) ∙ c.in_ok-scanned.ensures.sound in
    both c.compile.result _ _ _ (λ x regular same. subst (λ u. accepted_schema base u ≡ Ok u) e (is_accepted base w none regular) ∙ ap Ok (sym (same.1 ∙ e)))
    c.compile.ensures.regular c.compile.ensures.ok

pub returns-clause-err : goal.returns-clause-err
returns-clause-err c =
    let v = value c.args.schema.now in
    let none : scan_fault c.args.base.now v ≡ None = ap (λ b. scan_fault b v) (sym c.split.ensures.recomposes) ∙ c.in_ok-scanned.ensures.sound in
    IfErr-weaker c.compile.result _ _
    (λ f h is_found unbuilt. is_refused c.args.base.now v (fault_view f) none (subst (λ w. 0 < length (patterns w)) c.in_ok-scanned.ensures.ok.1 (h is_found).1) (ap fault_view (h is_found).0) unbuilt)
    c.compile.ensures.err
