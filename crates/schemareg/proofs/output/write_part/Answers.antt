use Rattle.std.proofs.Common.{◌≡◌, ◌≤◌, ◌-◌, length, take, drop, arith, append-nil, length-drop, sym}
use Rattle.std.proofs.lemmas.List.{take_all}
use Rattle.schemareg.proofs.Written.{part_more, part_same, part_zero}
use Rattle.schemareg.proofs.output.write_part.Goals as goal

pub loop-start-init : goal.loop-start-init
loop-start-init g c = record { within = omega arith; written = record { are = sym (append-nil _) } }

pub loop-start-preserved : goal.loop-start-preserved
loop-start-preserved g c =
    let bytes = c.args.bytes.now in
    let start = c.loop-start.start in
    let same : take (length bytes - start) (drop start bytes) ≡ drop start bytes = take_all (length bytes - start) (drop start bytes) (omega (arith, length-drop start bytes)) in
    let fits : c.in-Ok.count ≤ length (drop start bytes) = rw same at c.in-Ok.ensures.fits in
    record {
      within = omega (arith, fits, length-drop start bytes, c.loop-start.invariant.within);
      written = part_more _ _ _ bytes start c.in-Ok.count c.loop-start.invariant.written (rw same at c.in-Ok.ensures.told);
    }

pub returns-in-Ok-eq0-clause-written : goal.returns-in-Ok-eq0-clause-written
returns-in-Ok-eq0-clause-written g c =
    part_zero _ _ _ _ _ _ (omega (arith, c.in-Ok-eq0.field-0-test)) c.loop-start.invariant.written c.in-Ok-eq0.ensures.told

pub returns-in-Err-clause-written : goal.returns-in-Err-clause-written
returns-in-Err-clause-written g c = part_same _ _ _ _ c.loop-start.invariant.written c.in-Err.ensures.told
