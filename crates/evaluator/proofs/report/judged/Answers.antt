use Rattle.std.proofs.Common.{◌≡◌, ◌∙◌, OnOk, IfOk, subst, sym}
use Rattle.evaluation_log.specs.Logs.{log_view}
use Rattle.evaluation_log.specs.Notes.{outcome_notes}
use Rattle.evaluator.proofs.ReportLaws.{answer_deep, answer_loop, answer_made, counted_so, deep_so, looped_so, within_most}
use Rattle.evaluator.proofs.report.judged.Goals as goal

pub returns-then-log : goal.returns-then-log
returns-then-log c = λ o valid noted costly other.
    let e = subst (λ r. OnOk r (log_view c.args.log.now ≡ outcome_notes o)) c.in-Ok.is noted in
    answer_loop 100000 o (within_most c.args.log.now o e) (looped_so c.args.log.now o e ∙ c.if-log.true)

pub returns-then-log-2 : goal.returns-then-log-2
returns-then-log-2 c = λ o valid noted costly other.
    let e = subst (λ r. OnOk r (log_view c.args.log.now ≡ outcome_notes o)) c.in-Ok.is noted in
    answer_deep 100000 o (within_most c.args.log.now o e) (looped_so c.args.log.now o e ∙ c.if-log.false) (deep_so c.args.log.now o e ∙ c.if-log-2.true)

pub returns-else-log-2 : goal.returns-else-log-2
returns-else-log-2 c = λ o valid noted costly.
    let e = subst (λ r. OnOk r (log_view c.args.log.now ≡ outcome_notes o)) c.in-Ok.is noted in
    let v = sym (subst (λ r. IfOk r (λ b. b ≡ o.valid)) c.in-Ok.is valid) in (
      v,
      counted_so c.args.log.now o c.in-Ok.valid e v,
      answer_made 100000 o (within_most c.args.log.now o e) (looped_so c.args.log.now o e ∙ c.if-log.false) (deep_so c.args.log.now o e ∙ c.if-log-2.false),
    )
