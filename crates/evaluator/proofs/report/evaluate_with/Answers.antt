use Rattle.evaluator.proofs.ReportLaws.{gives_err, gives_ok, gives_text}
use Rattle.evaluator.proofs.report.evaluate_with.Goals as goal

pub returns-in-Ok : goal.returns-in-Ok
returns-in-Ok c =
    let r = c.of-report.result in
    let o = c.in-Ok.output in
    let shown = c.of-report.ensures in
    record {
      ok = gives_ok r _ (gives_text r _ o shown.ok shown.err c.in-Ok.ensures.ok);
      err = gives_err r _ (gives_text r _ o shown.ok shown.err c.in-Ok.ensures.ok);
      whole = λ G distinct reached. gives_text r _ o shown.ok shown.err (c.in-Ok.ensures.whole G distinct reached);
    }
