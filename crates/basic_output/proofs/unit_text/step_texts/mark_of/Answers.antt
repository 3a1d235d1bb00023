use Rattle.std.proofs.Common.{arith}
use Rattle.std.proofs.lemmas.Nat.{le_or_l, le_or_r}
use Rattle.basic_output.specs.Notations.{stands_in_pointer}
use Rattle.basic_output.specs.Pieces.{is_plain}
use Rattle.basic_output.proofs.PlainLaws.{one_more}
use Rattle.basic_output.proofs.unit_text.step_texts.mark_of.Goals as goal

pub loop-byte-preserved : goal.loop-byte-preserved
loop-byte-preserved c =
    let xs = c.args.bytes.now in
    let i = c.loop-byte.byte-index in
    let old = c.loop-byte.mark in
    let more = c.mark_at-mark.result in
    let low = le_or_l old more in
    let high = le_or_r old more in
    record {
      plain = λ all. one_more is_plain xs i _ c.loop-byte-test.true (c.loop-byte.invariant.plain (omega (arith, all, low))) (c.mark_at-mark.ensures.plain (omega (arith, all, high)));
      pointer = λ all. one_more stands_in_pointer xs i _ c.loop-byte-test.true (c.loop-byte.invariant.pointer (omega (arith, all, low))) (c.mark_at-mark.ensures.pointer (omega (arith, all, high)));
    }
