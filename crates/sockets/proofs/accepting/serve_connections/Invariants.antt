use Rattle.std.proofs.Common.{◌≡◌, ℕ, List, None, length}
use Rattle.connections.specs.Connected.{connection_at, handler_of}
use Rattle.connections.specs.Found.{FindsOnly}
use Rattle.serving.specs.Talks.{Talk, AreServed}
use Rattle.sockets.proofs.accepting.serve_connections.Given as goal

abbrev pub invariant-loop-served : goal.invariant-loop-served
invariant-loop-served g l = record {
  free : ((k : ℕ) → connection_at l.sessions k ≡ connection_at l.fn.sessions k);
  served : (((k : ℕ) → connection_at l.fn.sessions k ≡ None)
      → (xs : List Talk) × AreServed g.H.Handler.answers (g.H.Handler.state (handler_of l.fn.sessions)) xs (g.H.Handler.state (handler_of l.sessions)) × (length xs ≡ l.served));
  found : (((k : ℕ) → connection_at l.fn.sessions k ≡ None)
      → FindsOnly g.H.Handler.finds (handler_of l.fn.sessions) (g.H.Handler.state (handler_of l.fn.sessions))
      → FindsOnly g.H.Handler.finds (handler_of l.sessions) (g.H.Handler.state (handler_of l.sessions)));
}
