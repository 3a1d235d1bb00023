use Rattle.std.proofs.Common.{◌≡◌, ℕ}
use Rattle.connections.specs.Connected.{handler_of, connection_at}
use Rattle.network.specs.Outboxes.{unsent_at}
use Rattle.network.specs.Readiness.{AllDue}
use Rattle.network.specs.declared.clients.Client.TheVariants.{Absent}
use Rattle.serving_many.specs.Going.{Goes, state_of}
use Rattle.serving_many.specs.Needed.{AllNeeded}
use Rattle.serving_many.specs.Present.{AllPresent}
use Rattle.serving_many.proofs.serving.serve_all.Given as goal

abbrev pub invariant-loop : goal.invariant-loop
invariant-loop g l = record {
  goes : Goes g.H.Handler.state g.H.Handler.finds g.H.Handler.answers (handler_of l.fn.sessions) (g.N.Network.reads l.fn.network) (g.N.Network.writes l.fn.network)
      (state_of l.sessions l.outbox (g.N.Network.reads l.network) (g.N.Network.writes l.network));
  due : AllDue (unsent_at l.outbox) (g.N.Network.due l.network) l.round.waiting.items;
  needed : AllNeeded (connection_at l.sessions) (unsent_at l.outbox);
  present : (((k : ℕ) → g.N.Network.client l.fn.network k ≡ Absent) → AllPresent (g.N.Network.client l.network) (unsent_at l.outbox));
}
