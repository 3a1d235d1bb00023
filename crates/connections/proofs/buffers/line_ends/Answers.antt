use Rattle.std.proofs.Common.{arith, ◌∙◌, sym}
use Rattle.connections.proofs.Skipped.{next_dropped, next_taken}
use Rattle.connections.proofs.buffers.line_ends.Goals as goal

pub loop-count-preserved : goal.loop-count-preserved
loop-count-preserved c =
    let end = sym c.is_line_end.ensures ∙ c.if-is_line_end.true in
    let i = c.loop-count.invariant in
    record {
      within = omega arith;
      rest = next_dropped c.args.bytes.now c.loop-count.count c.loop-count-test.true end ∙ i.rest;
      front = next_taken c.args.bytes.now c.loop-count.count c.loop-count-test.true end i.front;
    }
