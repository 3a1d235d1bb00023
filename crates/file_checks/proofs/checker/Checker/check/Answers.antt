use Rattle.std.proofs.lemmas.Result.{err_from_is_err_and}
use Rattle.json_doc.specs.Docs.{value}
use Rattle.linker.specs.LinkedDocuments.{linked_uri}
use Rattle.file_checks.specs.FileSources.{checker_linked}
use Rattle.file_checks.proofs.Judged.{is_judged, is_refused}
use Rattle.file_checks.proofs.checker.Checker.check.Goals as goal

pub returns-clause-told : goal.returns-clause-told
returns-clause-told c = λ G distinct reached.
    is_judged G (linked_uri (checker_linked c.args.self.now)) c.args.text.now (value c.in_ok-instance.instance) c.evaluate_with.result
    c.in_ok-instance.ensures.ok (c.evaluate_with.ensures.whole G distinct reached)

pub returns-in_err-instance-clause-told : goal.returns-in_err-instance-clause-told
returns-in_err-instance-clause-told c = λ G distinct reached.
    let p = err_from_is_err_and c.from_residual.result c.from_residual.ensures.1 in
    rw (p.1, p.2) (is_refused G (linked_uri (checker_linked c.args.self.now)) c.args.text.now c.in_err-instance.field-0.0 c.in_err-instance.ensures.err)
