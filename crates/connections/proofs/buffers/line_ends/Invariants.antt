use Rattle.std.proofs.Common.{length, ◌-◌, ◌≡◌, ◌≤◌, [], take, drop}
use Rattle.http_definitions.specs.Streams.{without_line_ends}
use Rattle.connections.proofs.buffers.line_ends.Given as goal

abbrev pub invariant-loop-count : goal.invariant-loop-count
invariant-loop-count l = record {
  within : l.count ≤ length l.bytes;
  rest : without_line_ends (drop l.count l.bytes) ≡ without_line_ends l.bytes;
  front : without_line_ends (take l.count l.bytes) ≡ [];
}

abbrev pub decreases-loop-count : goal.decreases-loop-count
decreases-loop-count l = length l.bytes - l.count
