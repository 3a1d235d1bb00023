use Rattle.std.proofs.Common.{refl}
use Rattle.serving_many.proofs.Steps.{step_behind}
use Rattle.serving_many.proofs.Turns.{opened, moved_nothing}
use Rattle.serving_many.proofs.meeting.open.Goals as goal

pub returns-in-Ok-open-clause-step : goal.returns-in-Ok-open-clause-step
returns-in-Ok-open-clause-step g c = record {
  kept = opened g.H.Handler.state g.H.Handler.finds g.H.Handler.answers c.args.id _ _ _ c.in-Ok.ensures.fresh c.in-Ok.ensures.count c.in-Ok-open.ensures.opened c.in-Ok-open.ensures.others c.in-Ok.ensures.ok c.in-Ok.ensures.others c.in-Ok-open.ensures.handler refl refl;
  connections = c.in-Ok-open.ensures.others;
  unsent = c.in-Ok.ensures.others;
  due = λ k d ne x. x;
  clients = λ k ne. refl;
}

pub returns-in-Err-open-clause-step : goal.returns-in-Err-open-clause-step
returns-in-Err-open-clause-step g c =
    step_behind
    (opened g.H.Handler.state g.H.Handler.finds g.H.Handler.answers c.args.id _ _ _ c.in-Ok.ensures.fresh c.in-Ok.ensures.count c.in-Err-open.ensures.opened c.in-Err-open.ensures.others c.in-Ok.ensures.ok c.in-Ok.ensures.others c.in-Err-open.ensures.handler refl refl)
    c.in-Err-open.ensures.others c.in-Ok.ensures.others (λ k d ne x. x) (λ k ne. refl) c.cut_off-in-Err-open.ensures.step

pub returns-in-Err-clause-step : goal.returns-in-Err-clause-step
returns-in-Err-clause-step g c =
    step_behind
    (moved_nothing g.H.Handler.state g.H.Handler.finds g.H.Handler.answers c.args.id _ _ c.in-Err.ensures.err_count (λ k ne. refl) (λ k ne. c.in-Err.ensures.err k) refl (c.in-Err.ensures.err c.args.id) refl refl refl)
    (λ k ne. refl) (λ k ne. c.in-Err.ensures.err k) (λ k d ne x. x) (λ k ne. refl) c.cut_off.ensures.step
