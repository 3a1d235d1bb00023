use Rattle.std.proofs.Common.{sym, subst}
use Rattle.network.specs.Outboxes.{unsent_at}
use Rattle.network.specs.Readiness.{AllDue}
use Rattle.serving_many.specs.Needed.{IsNeeded}
use Rattle.serving_many.proofs.Turns.{settled}
use Rattle.serving_many.proofs.sending.end_round.Goals as goal

pub returns-in-Err-clause-kept : goal.returns-in-Err-clause-kept
returns-in-Err-clause-kept g c =
    settled g.H.Handler.state g.H.Handler.finds g.H.Handler.answers c.args.sessions.now c.settle.new.self c.args.outbox.now _ _ c.in-Err.ensures.connections c.in-Err.ensures.state c.in-Err.ensures.crash

pub returns-in-Ok-clause-kept : goal.returns-in-Ok-clause-kept
returns-in-Ok-clause-kept g c start reads writes x =
    c.send_all.ensures.kept start reads writes
    (settled g.H.Handler.state g.H.Handler.finds g.H.Handler.answers c.args.sessions.now c.settle.new.self c.args.outbox.now _ _ c.in-Ok.ensures.connections c.in-Ok.ensures.state c.in-Ok.ensures.crash start reads writes x)

pub returns-in-Ok-clause-due : goal.returns-in-Ok-clause-due
returns-in-Ok-clause-due g c x =
    c.send_all.ensures.due (subst (AllDue (unsent_at c.args.outbox.now) (g.N.Network.due c.args.network.now)) (sym c.deref.ensures.value) x)

pub returns-in-Ok-clause-needed : goal.returns-in-Ok-clause-needed
returns-in-Ok-clause-needed g c x =
    c.send_all.ensures.needed (λ k. subst (λ o. IsNeeded o (unsent_at c.args.outbox.now k)) (sym (c.in-Ok.ensures.connections k)) (x k))
