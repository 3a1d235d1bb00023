use Rattle.std.proofs.Common.{◌∙◌, Ok, ap, subst, sym}
use Rattle.evaluator.specs.Reports.{Judges, report_or_fault}
use Rattle.evaluator.proofs.report.output_or_fault.Goals as goal

pub returns-in-Ok : goal.returns-in-Ok
returns-in-Ok c = λ o verdict.
    let j = subst (λ r. Judges r c.args.units.value o) c.in-Ok.is verdict in
    ap report_or_fault j.2 ∙ ap Ok (sym (c.new.ensures o j.0 j.1))

pub returns-in-Err : goal.returns-in-Err
returns-in-Err c = λ o verdict. subst (λ r. Judges r c.args.units.value o) c.in-Err.is verdict
