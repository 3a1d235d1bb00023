use Rattle.std.proofs.Common.{◌≡◌, drop}
use Rattle.connections.specs.Connected.{handler_of, connection_at}
use Rattle.network.specs.Outboxes.{unsent_at}
use Rattle.network.specs.Readiness.{AllDue}
use Rattle.serving_many.specs.Going.{Keeps, state_of}
use Rattle.serving_many.specs.Needed.{AllNeeded}
use Rattle.serving_many.specs.Present.{AllPresent}
use Rattle.serving_many.proofs.sending.send_all.Given as goal

abbrev pub invariant-loop-id : goal.invariant-loop-id
invariant-loop-id g l = record {
  kept : Keeps g.H.Handler.state g.H.Handler.finds g.H.Handler.answers (state_of l.fn.sessions l.fn.outbox (g.N.Network.reads l.fn.network) (g.N.Network.writes l.fn.network))
      (state_of l.sessions l.outbox (g.N.Network.reads l.network) (g.N.Network.writes l.network));
  handler : handler_of l.sessions ≡ handler_of l.fn.sessions;
  way : g.N.Network.gave_way l.network ≡ g.N.Network.gave_way l.fn.network;
  due : (AllDue (unsent_at l.fn.outbox) (g.N.Network.due l.fn.network) l.ids → AllDue (unsent_at l.outbox) (g.N.Network.due l.network) (drop l.id-index l.ids));
  needed : (AllNeeded (connection_at l.fn.sessions) (unsent_at l.fn.outbox) → AllNeeded (connection_at l.sessions) (unsent_at l.outbox));
  present : (AllPresent (g.N.Network.client l.fn.network) (unsent_at l.fn.outbox) → AllPresent (g.N.Network.client l.network) (unsent_at l.outbox));
}
