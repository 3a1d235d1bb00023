use Rattle.std.proofs.Common.{arith}
use Rattle.std.proofs.lemmas.List.{length-take-le}
use Rattle.basic_output.specs.Buffers.{buffer_text}
use Rattle.basic_output.proofs.BufferLaws.{cut_buffer}
use Rattle.basic_output.proofs.unit_text.buffer.TextBuffer.truncate.Goals as goal

pub invariant_of-self : goal.invariant_of-self
unfolding buffer_text
invariant_of-self c =
    let b = c.args.self.now in
    let n = c.args.len in
    let len = length-take-le b.len b.bytes.items b.within in
    record {
      within = omega (arith, c.if-len-self.true, b.within);
      utf8 = cut_buffer b n (omega (arith, c.if-len-self.true)) (c.requires (omega (arith, len, c.if-len-self.true)));
    }
