use Rattle.std.proofs.Common.{Ok, Err, Some, refl, ap, ◌∙◌}
use Rattle.serving_many.proofs.Steps.{step_behind}
use Rattle.serving_many.proofs.Turns.{fed_one}
use Rattle.serving_many.proofs.answering.answer_piece.Goals as goal

pub returns-in-Ok-clause-step : goal.returns-in-Ok-clause-step
returns-in-Ok-clause-step g c before e =
    step_behind
    (fed_one g.H.Handler.state g.H.Handler.finds g.H.Handler.answers c.args.id _ _ (c.fill.ensures.count ∙ c.lend-out.ensures.count) c.in-Ok.ensures.others (λ k ne. c.fill.ensures.others k ne ∙ c.lend-out.ensures.same k) c.args.piece.now _ (Ok tt) c.in-Ok.ensures.fed c.requires.«open» e refl c.requires.silent
    (c.fill.ensures.some ∙ ap (λ v. Some v.items) c.into_bytes.ensures.value) c.in-Ok.ensures.found)
    c.in-Ok.ensures.others (λ k ne. c.fill.ensures.others k ne ∙ c.lend-out.ensures.same k) (λ k d ne x. x) (λ k ne. refl) c.has_reply.ensures.step

pub returns-in-Err-clause-step : goal.returns-in-Err-clause-step
returns-in-Err-clause-step g c before e =
    step_behind
    (fed_one g.H.Handler.state g.H.Handler.finds g.H.Handler.answers c.args.id _ _ c.lend-out.ensures.count c.in-Err.ensures.others (λ k ne. c.lend-out.ensures.same k) c.args.piece.now _ (Err c.in-Err.fault) c.in-Err.ensures.fed c.requires.«open» e refl c.requires.silent
    (c.lend-out.ensures.same c.args.id ∙ c.requires.silent) c.in-Err.ensures.found)
    c.in-Err.ensures.others (λ k ne. c.lend-out.ensures.same k) (λ k d ne x. x) (λ k ne. refl) c.cut_off.ensures.step
