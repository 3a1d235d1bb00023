use Rattle.std.proofs.Common.{Ok, Err, Some, refl, ap, ◌∙◌}
use Rattle.serving_many.proofs.Steps.{step_behind}
use Rattle.serving_many.proofs.Turns.{told_at_last, words_at_last, nothing_at_last}
use Rattle.serving_many.proofs.answering.answer_end.Goals as goal

pub returns-in-Ok-clause-step : goal.returns-in-Ok-clause-step
returns-in-Ok-clause-step g c =
    step_behind
    (told_at_last g.H.Handler.state g.H.Handler.finds g.H.Handler.answers c.args.id _ _ c.fill.ensures.count c.in-Ok.ensures.others c.fill.ensures.others (Ok c.in-Ok.words) c.in-Ok.ensures.ended c.in-Ok.ensures.handler refl refl c.requires.silent
    (c.fill.ensures.some ∙ ap (λ t. Some t) (words_at_last _ c.in-Ok.words _ c.in-Ok.ensures.ended)))
    c.in-Ok.ensures.others c.fill.ensures.others (λ k d ne x. x) (λ k ne. refl) c.has_reply.ensures.step

pub returns-in-Err-clause-step : goal.returns-in-Err-clause-step
returns-in-Err-clause-step g c =
    step_behind
    (told_at_last g.H.Handler.state g.H.Handler.finds g.H.Handler.answers c.args.id _ _ refl c.in-Err.ensures.others (λ k ne. refl) (Err c.in-Err.fault) c.in-Err.ensures.ended c.in-Err.ensures.handler refl refl c.requires.silent
    (c.requires.silent ∙ ap (λ t. Some t) (nothing_at_last _ c.in-Err.fault)))
    c.in-Err.ensures.others (λ k ne. refl) (λ k d ne x. x) (λ k ne. refl) c.cut_off.ensures.step
