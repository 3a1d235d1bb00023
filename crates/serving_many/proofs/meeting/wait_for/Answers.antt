use Rattle.std.proofs.Common.{◌∷◌, [], sym, subst, inl}
use Rattle.network.specs.Readiness.{IsAmong}
use Rattle.serving_many.proofs.Among.{among_last, among_on}
use Rattle.serving_many.proofs.meeting.wait_for.Goals as goal

pub returns-in-Ok-clause-noted : goal.returns-in-Ok-clause-noted
returns-in-Ok-clause-noted g c = inl (subst (IsAmong c.args.id) (sym c.in-Ok.ensures.items) (among_last c.args.id c.args.waiting.now.items))

pub returns-in-Ok-clause-waiting : goal.returns-in-Ok-clause-waiting
returns-in-Ok-clause-waiting g c k m = subst (IsAmong k) (sym c.in-Ok.ensures.items) (among_on k c.args.waiting.now.items (c.args.id ∷ []) m)
