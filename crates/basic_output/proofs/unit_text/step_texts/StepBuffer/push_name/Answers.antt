use Rattle.std.proofs.Common.{◌≡◌, true, ap, sym, ◌∙◌, arith}
use Rattle.std.specs.List.{list_all}
use Rattle.basic_output.specs.Buffers.{buffer_text}
use Rattle.basic_output.specs.Pieces.{is_plain}
use Rattle.basic_output.proofs.PlainLaws.{plain_pushed}
use Rattle.basic_output.proofs.unit_text.step_texts.StepBuffer.push_name.Goals as goal

pub returns-then-mark-eq48 : goal.returns-then-mark-eq48
returns-then-mark-eq48 c =
    let name = c.args.name.now in
    let plain : list_all is_plain name ≡ true = ap (list_all is_plain) (sym c.as_bytes.ensures.value) ∙ c.mark_of-mark.ensures.plain (omega (arith, c.if-mark-eq48.true)) in
    plain_pushed c.args.notation name (buffer_text c.args.self.now.text) (buffer_text c.push_prefixed.new.self) plain c.in_ok-push_prefixed.ensures
