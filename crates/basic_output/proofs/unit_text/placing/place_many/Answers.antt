use Rattle.std.proofs.Common.{◌≡◌, ◌+◌, rules, arith, ap, length, take-add, length-take-le, take-append-drop}
use Rattle.std.proofs.lemmas.List.{take_rest}
use Rattle.json.proofs.Printed.Places.{Placed-then}
use Rattle.basic_output.proofs.unit_text.placing.place_many.Goals as goal

pub loop-done-preserved : goal.loop-done-preserved
loop-done-preserved c =
    let from = c.args.from.now in
    let done = c.loop-done.done in
    let both = Placed-then c.loop-done.invariant.1 (rw (take_rest from done) at c.place_first.ensures) in
    let whole = length-take-le (done + 32) from (search rules) in
    let end : c.place_first.result ≡ c.args.start + (done + 32) = omega (arith, both.moved, ap length (take-add done 32 from), whole) in
    (search rules, rw (take-add done 32 from, ← end) both)

pub returns : goal.returns
returns c =
    let from = c.args.from.now in
    let done = c.loop-done.done in
    rw (take-append-drop done from) at (Placed-then c.loop-done.invariant.1 (rw (take_rest from done) at c.place_ends.ensures))
