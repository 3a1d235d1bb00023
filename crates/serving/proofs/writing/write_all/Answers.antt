use Rattle.std.proofs.Common.{◌≡◌, ◌≤◌, ◌-◌, length, take, drop, refl, arith, inl, inr, length-drop}
use Rattle.std.proofs.lemmas.List.{take_all}
use Rattle.serving.proofs.Written.{writes_next, breaks_off, took_none}
use Rattle.serving.proofs.writing.write_all.Goals as goal

pub returns-in-Ok-eq0 : goal.returns-in-Ok-eq0
returns-in-Ok-eq0 g c = (
  refl,
  breaks_off _ _ _ c.args.bytes.now c.loop-start.start _ c.loop-start.invariant.told c.in-Ok-eq0.ensures.told
      (inr (took_none _ _ (omega (arith, c.in-Ok-eq0.field-0-test)))),
)

pub loop-start-preserved : goal.loop-start-preserved
loop-start-preserved g c =
    let bytes = c.args.bytes.now in
    let start = c.loop-start.start in
    let same : take (length bytes - start) (drop start bytes) ≡ drop start bytes = take_all (length bytes - start) (drop start bytes) (omega (arith, length-drop start bytes)) in
    let fits : c.in-Ok.count ≤ length (drop start bytes) = rw same at c.in-Ok.ensures.fits in
    record {
      within = omega (arith, fits, length-drop start bytes, c.loop-start.invariant.within);
      told = writes_next _ _ _ bytes start c.in-Ok.count c.loop-start.invariant.told (rw same at c.in-Ok.ensures.told);
    }

pub returns-in-Err : goal.returns-in-Err
returns-in-Err g c =
    (refl, breaks_off _ _ _ c.args.bytes.now c.loop-start.start _ c.loop-start.invariant.told c.in-Err.ensures.told (inl refl))
