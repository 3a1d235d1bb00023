use Rattle.std.proofs.Common.{◌≡◌, ◌≤◌, ◌-◌, [], Some, length}
use Rattle.http_definitions.specs.Connections.{holding}
use Rattle.definitions.specs.Values.{Text}
use Rattle.connections.specs.Connected.{handler_of, connection_at, OthersStay}
use Rattle.connections.specs.Found.{FindsOnly}
use Rattle.serving.specs.Exchanges.{wire, Tells}
use Rattle.serving.proofs.Bounded.{HasRead}
use Rattle.serving.proofs.exchanges.exchange.Given as goal

abbrev pub invariant-loop-reads : goal.invariant-loop-reads
invariant-loop-reads g l = record {
  told : ((held : Text) × (connection_at l.sessions l.id ≡ Some (holding held))
      × (x : Tells g.H.Handler.answers (wire (g.H.Handler.state (handler_of l.fn.sessions)) (g.R.ByteReader.reads l.fn.reader) (g.W.ByteWriter.writes l.fn.writer)) []
      (holding held) (wire (g.H.Handler.state (handler_of l.sessions)) (g.R.ByteReader.reads l.reader) (g.W.ByteWriter.writes l.writer)))
      × (length x.0.pieces ≡ l.reads));
  found : (FindsOnly g.H.Handler.finds (handler_of l.fn.sessions) (g.H.Handler.state (handler_of l.fn.sessions))
      → FindsOnly g.H.Handler.finds (handler_of l.sessions) (g.H.Handler.state (handler_of l.sessions)));
  others : OthersStay l.id l.fn.sessions l.sessions;
  within : l.reads ≤ 65536;
  read : HasRead (g.R.ByteReader.reads l.fn.reader) l.reads (g.R.ByteReader.reads l.reader);
}

abbrev pub decreases-loop-reads : goal.decreases-loop-reads
decreases-loop-reads g l = 65536 - l.reads
