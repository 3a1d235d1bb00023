use Rattle.std.proofs.Common.{◌-◌, ◌^◌, ap, get_or, length}
use Rattle.std.proofs.lemmas.List.{get_or_default}
use Rattle.basic_output.specs.Spans.{text_at}
use Rattle.basic_output.specs.declared.units.Span.{Span}
use Rattle.basic_output.proofs.OrderLaws.{text_there}
use Rattle.basic_output.proofs.JoinedLengths.{later_longer}
use Rattle.basic_output.proofs.joined.later_len.Goals as goal

abbrev nowhere : Span
nowhere = record { start = 0; end = 0; position = 0 }

pub loop-place-preserved : goal.loop-place-preserved
loop-place-preserved c =
    let t = c.args.text.now in
    let ss = c.args.spans.now in
    let order = c.args.order.now in
    let i = c.loop-place.place-index in
    let place = get_or order i 0 in
    let within = c.requires.order i 0 c.loop-place-test.true in
    later_longer (2 ^ 64 - 1) _ _ _ _ (text_at t ss) order i place _ c.loop-place-test.true (get_or_default order i 0 place c.loop-place-test.true)
    (text_there t ss place nowhere within) c.loop-place.invariant c.saturating_add.ensures (ap length c.text_in-unit.ensures) c.saturating_add-count.ensures
