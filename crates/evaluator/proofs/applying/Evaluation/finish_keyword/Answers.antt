use Rattle.std.proofs.Common.{rules, ◌∙◌, ap}
use Rattle.json_doc.specs.Docs.{value}
use Rattle.keywords.specs.Rows.{row_of}
use Rattle.evaluation_context.specs.Frames.{context_view, frame_standing}
use Rattle.evaluation_log.specs.Logs.{log_view}
use Rattle.evaluator.specs.Rounds.{use_there}
use Rattle.evaluator.proofs.SettlingLaws.{use_valid}
use Rattle.evaluator.proofs.applying.Evaluation.finish_keyword.Goals as goal

pub returns-clause-outcome : goal.returns-clause-outcome
returns-clause-outcome c a left names indexes before at finds m e =
    let l = c.args.self.now.linked.now in
    let v = value c.args.keyword_value.now in
    let passes = c.in_ok-passes.ensures.passes a left names indexes at finds.number finds.passing in
    record {
      found = use_valid c.in_ok-passes.passes (use_there l left a c.args.keyword names indexes v) passes;
      noted =
          c.in_ok-settle.ensures.noted l left a names indexes v (log_view before.log) at.instance finds.number passes
          (ap (λ here. frame_standing (context_view here)) c.in_ok-passes.ensures.same.context ∙ at.under) m (ap log_view c.in_ok-passes.ensures.same.log ∙ e);
      err = tt;
    }

pub returns-in_err-settle-clause-outcome : goal.returns-in_err-settle-clause-outcome
returns-in_err-settle-clause-outcome c a left names indexes before at finds m e = record { found = search rules; noted = search rules; err = search rules }

pub returns-clause-back : goal.returns-clause-back
returns-clause-back c older e = c.leave_keyword.ensures.left older (row_of c.args.keyword).name (c.in_ok-settle.ensures.back ∙ ap context_view c.in_ok-passes.ensures.same.context ∙ e)
