use Rattle.std.proofs.Common.{◌≡◌, length, take, arith, length-take-le}
use Rattle.std.proofs.lemmas.Simd.{take_more_put_chunk, length-put_chunk}
use Rattle.basic_output.proofs.unit_text.placing.place_first.Goals as goal

pub returns : goal.returns
returns g c =
    let front = take g.row.N c.args.from.now in
    let long : length front ≡ g.row.N = length-take-le g.row.N c.args.from.now c.requires.0 in
    record {
      bytes = take_more_put_chunk c.args.start c.args.bytes.now front _ (omega arith) c.requires.1;
      moved = omega arith;
      len = length-put_chunk c.args.start c.args.bytes.now front;
    }
