use Rattle.std.proofs.Common.{◌≤◌, ◌-◌, [], length, take, drop, string_bytes}
use Rattle.http_definitions.specs.Connections.{holding}
use Rattle.http_definitions.specs.Streams.{without_line_ends}
use Rattle.connections.specs.Phases.{IsOn}
use Rattle.connections.specs.Found.{FindsNoMore}
use Rattle.connections.specs.Progress.{Tells}
use Rattle.connections.proofs.taking.take_all.Given as goal

abbrev pub invariant-loop-start : goal.invariant-loop-start
invariant-loop-start g l = record {
  within : l.start ≤ length l.bytes;
  on : IsOn (without_line_ends (drop l.start l.bytes)) l.reached;
  told : Tells g.H.Handler.answers (take l.start l.bytes) (g.H.Handler.state l.fn.handler) (string_bytes l.fn.out) (holding []) (g.H.Handler.state l.handler) (string_bytes l.out);
  found : FindsNoMore g.H.Handler.finds l.fn.handler l.handler;
}

abbrev pub decreases-loop-start : goal.decreases-loop-start
decreases-loop-start g l = length l.bytes - l.start
