use Rattle.std.proofs.Common.{◌≡◌}
use Rattle.sockets.specs.Table.{StaysDue, KeepsClients}
use Rattle.sockets.specs.Sockets.{MovesNothing}
use Rattle.sockets.proofs.sockets.Sockets.late.Given as goal

abbrev pub invariant-loop : goal.invariant-loop
invariant-loop g l = record {
  moves : MovesNothing l.fn.self l.self;
  due : StaysDue l.fn.self.table l.self.table;
  clients : KeepsClients l.fn.self.table l.self.table;
  count : l.self.table.count ≡ l.fn.self.table.count;
}
