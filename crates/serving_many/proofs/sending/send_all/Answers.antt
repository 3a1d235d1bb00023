use Rattle.std.proofs.Common.{refl, ◌∙◌, subst, arith}
use Rattle.std.proofs.lemmas.List.{drop_all}
use Rattle.network.specs.Outboxes.{unsent_at}
use Rattle.network.specs.Readiness.{AllDue}
use Rattle.serving_many.proofs.Among.{due_next}
use Rattle.serving_many.proofs.Steps.{all_needed, all_present}
use Rattle.serving_many.proofs.sending.send_all.Goals as goal

pub loop-id-preserved : goal.loop-id-preserved
loop-id-preserved g c = record {
  kept = λ s reads writes x. c.send.ensures.step.kept s reads writes (c.loop-id.invariant.kept s reads writes x);
  handler = c.send.ensures.handler ∙ c.loop-id.invariant.handler;
  way = c.send.ensures.way ∙ c.loop-id.invariant.way;
  due = λ old. due_next _ _ _ _ _ c.args.ids.now c.loop-id.id-index (omega (arith, c.loop-id-test.true)) refl c.send.ensures.step.unsent c.send.ensures.step.due c.send.ensures.own (c.loop-id.invariant.due old);
  needed = λ x. all_needed c.send.ensures.step (c.send.ensures.needed (c.loop-id.invariant.needed x _)) (c.loop-id.invariant.needed x);
  present = λ x. all_present c.send.ensures.step (c.send.ensures.present (c.loop-id.invariant.present x _)) (λ k ne. c.loop-id.invariant.present x k);
}

pub returns-clause-due : goal.returns-clause-due
returns-clause-due g c old =
    subst (AllDue (unsent_at c.loop-id.outbox) (g.N.Network.due c.loop-id.network)) (drop_all c.loop-id.id-index c.args.ids.now (omega (arith, c.loop-id-test.false))) (c.loop-id.invariant.due old)
