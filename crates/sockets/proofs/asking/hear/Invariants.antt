use Rattle.std.proofs.Common.{◌≡◌}
use Rattle.sockets.specs.Table.{StaysDue, KeepsClients}
use Rattle.sockets.proofs.asking.hear.Given as goal

abbrev pub invariant-loop-event : goal.invariant-loop-event
invariant-loop-event l = record {
  due : StaysDue l.fn.table l.table;
  clients : KeepsClients l.fn.table l.table;
  count : l.table.count ≡ l.fn.table.count;
}
