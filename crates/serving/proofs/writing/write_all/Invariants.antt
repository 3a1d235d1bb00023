use Rattle.std.proofs.Common.{◌≤◌, ◌-◌, length, take}
use Rattle.serving.specs.Writing.{Writes}
use Rattle.serving.proofs.writing.write_all.Given as goal

abbrev pub invariant-loop-start : goal.invariant-loop-start
invariant-loop-start g l = record {
  within : l.start ≤ length l.bytes;
  told : Writes (g.W.ByteWriter.writes l.fn.writer) (take l.start l.bytes) (g.W.ByteWriter.writes l.writer);
}

abbrev pub decreases-loop-start : goal.decreases-loop-start
decreases-loop-start g l = length l.bytes - l.start
