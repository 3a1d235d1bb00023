use Rattle.std.proofs.Common.{refl}
use Rattle.serving_many.proofs.Steps.{step_behind}
use Rattle.serving_many.proofs.Turns.{read_nothing}
use Rattle.serving_many.proofs.answering.receive.Goals as goal

pub returns-in-Ok-Some-eq0-clause-step : goal.returns-in-Ok-Some-eq0-clause-step
returns-in-Ok-Some-eq0-clause-step g c =
    step_behind
    (read_nothing g.H.Handler.state g.H.Handler.finds g.H.Handler.answers c.args.id _ _ refl (λ k ne. refl) (λ k ne. refl) refl refl refl (rw (c.in-Ok-Some-eq0.field-0-is, c.in-Ok-Some-eq0.field-0-0-test) at c.in-Ok-Some-eq0.ensures.told) c.read.ensures.writes)
    (λ k ne. refl) (λ k ne. refl) c.read.ensures.others c.read.ensures.clients c.answer_end.ensures.step
