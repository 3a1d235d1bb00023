use Rattle.std.proofs.Common.{◌-◌, ◌^◌, ap, length}
use Rattle.basic_output.specs.Spans.{text_at, texts_in_order}
use Rattle.basic_output.specs.declared.units.Span.{Span}
use Rattle.basic_output.proofs.OrderLaws.{text_there}
use Rattle.basic_output.proofs.JoinedLengths.{joined_longer}
use Rattle.basic_output.proofs.joined.texts_len.Goals as goal

abbrev nowhere : Span
nowhere = record { start = 0; end = 0; position = 0 }

pub returns : goal.returns
returns c =
    let t = c.args.text.now in
    let ss = c.args.spans.now in
    joined_longer (2 ^ 64 - 1) _ _ _ _ (text_at t ss c.args.first) (texts_in_order t ss c.args.later.now) (text_there t ss c.args.first nowhere c.requires.first)
    c.later_len.ensures (ap length c.text_in-unit.ensures) c.saturating_add.ensures
