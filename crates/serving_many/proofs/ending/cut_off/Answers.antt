use Rattle.serving_many.proofs.Changes.{gone_at_end}
use Rattle.serving_many.proofs.Turns.{ended}
use Rattle.serving_many.proofs.ending.cut_off.Goals as goal

pub returns-then-was_open-clause-step : goal.returns-then-was_open-clause-step
returns-then-was_open-clause-step g c = record {
  kept = ended g.H.Handler.state g.H.Handler.finds g.H.Handler.answers c.args.id _ _ c.end-was_open.ensures.count c.end.ensures.others c.end-was_open.ensures.others _ c.end.ensures.ended c.end.ensures.handler c.close.ensures.reads c.close.ensures.writes c.end-was_open.ensures.none;
  connections = c.end.ensures.others;
  unsent = c.end-was_open.ensures.others;
  due = c.close.ensures.others;
  clients = c.close.ensures.clients;
}

pub returns-clause-step : goal.returns-clause-step
returns-clause-step g c = record {
  kept = ended g.H.Handler.state g.H.Handler.finds g.H.Handler.answers c.args.id _ _ c.end-was_open.ensures.count c.end.ensures.others c.end-was_open.ensures.others _ c.end.ensures.ended c.end.ensures.handler c.close.ensures.reads c.close.ensures.writes c.end-was_open.ensures.none;
  connections = c.end.ensures.others;
  unsent = c.end-was_open.ensures.others;
  due = c.close.ensures.others;
  clients = c.close.ensures.clients;
}

pub returns-then-was_open-clause-gone : goal.returns-then-was_open-clause-gone
returns-then-was_open-clause-gone g c = gone_at_end _ _ _ c.end.ensures.ended

pub returns-clause-gone : goal.returns-clause-gone
returns-clause-gone g c = gone_at_end _ _ _ c.end.ensures.ended
