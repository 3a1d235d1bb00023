use Rattle.std.proofs.Common.{refl, sym, ap, ◌∙◌}
use Rattle.serving_many.proofs.Among.{no_some}
use Rattle.serving_many.specs.Present.{client_of}
use Rattle.serving_many.proofs.Steps.{step_behind}
use Rattle.serving_many.proofs.Turns.{wrote_some, wrote_nothing}
use Rattle.serving_many.proofs.sending.send.Goals as goal

pub await_turn-requires : goal.await_turn-requires
await_turn-requires g c = no_some _ _ (c.advance.ensures.some _ (sym c.in-Some.ensures))

pub returns-in-Ok-Some-clause-step : goal.returns-in-Ok-Some-clause-step
returns-in-Ok-Some-clause-step g c =
    let was = sym c.in-Some.ensures in
    step_behind
    (wrote_some g.H.Handler.state g.H.Handler.finds g.H.Handler.answers c.args.id _ _ c.advance.ensures.count (λ k ne. refl) c.advance.ensures.others _ c.in-Ok-Some.count refl refl
    c.write.ensures.reads (rw c.in-Ok-Some.field-0-is at c.in-Ok-Some.ensures.told) was (c.advance.ensures.some _ was) c.requires)
    (λ k ne. refl) c.advance.ensures.others c.write.ensures.others c.write.ensures.clients c.await_turn.ensures.step

pub returns-in-Ok-Some-eq0-clause-step : goal.returns-in-Ok-Some-eq0-clause-step
returns-in-Ok-Some-eq0-clause-step g c =
    step_behind
    (wrote_nothing g.H.Handler.state g.H.Handler.finds g.H.Handler.answers c.args.id _ _ refl (λ k ne. refl) (λ k ne. refl) refl refl refl c.write.ensures.reads (rw (c.in-Ok-Some-eq0.field-0-is, c.in-Ok-Some-eq0.field-0-0-test) at c.in-Ok-Some-eq0.ensures.told))
    (λ k ne. refl) (λ k ne. refl) c.write.ensures.others c.write.ensures.clients c.cut_off.ensures.step

pub returns-in-Ok-Some-clause-present : goal.returns-in-Ok-Some-clause-present
returns-in-Ok-Some-clause-present g c x =
    let was = sym c.in-Some.ensures in
    c.await_turn.ensures.present ((rw c.in-Ok-Some.field-0-is at c.in-Ok-Some.ensures.client) ∙ x ∙ ap client_of was ∙ sym (ap client_of (c.advance.ensures.some _ was)))
