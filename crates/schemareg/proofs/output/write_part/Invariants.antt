use Rattle.std.proofs.Common.{◌≤◌, ◌-◌, length, take}
use Rattle.schemareg.proofs.Written.{Puts}
use Rattle.schemareg.proofs.output.write_part.Given as goal

abbrev pub invariant-loop-start : goal.invariant-loop-start
invariant-loop-start g l = record {
  within : l.start ≤ length l.bytes;
  written : Puts (g.O.ByteWriter.writes l.fn.stream) (take l.start l.bytes) (g.O.ByteWriter.writes l.stream);
}

abbrev pub decreases-loop-start : goal.decreases-loop-start
decreases-loop-start g l = length l.bytes - l.start
