use Rattle.std.proofs.Common.{◌++◌, ap, ◌∙◌, sym}
use Rattle.output_texts.specs.Outputs.{text_around}
use Rattle.basic_output.specs.Units.{unit_texts}
use Rattle.output_texts.proofs.OutputTexts.{output_is}
use Rattle.output_texts.proofs.PieceLaws.{output_pieces}
use Rattle.output_texts.proofs.output.output_text.Goals as goal

pub returns-clause-text : goal.returns-clause-text
returns-clause-text c = λ us same.
    c.in_ok-write_text.ensures
    ∙ ap (λ b. b ++ text_around c.args.valid (unit_texts c.args.units.now)) c.in_ok-out.ensures.bytes
    ∙ ap (text_around c.args.valid) same
    ∙ sym (output_pieces c.args.valid us)

pub returns-clause-answer : goal.returns-clause-answer
returns-clause-answer c = λ o judged same.
    c.in_ok-write_text.ensures
    ∙ ap (λ b. b ++ text_around c.args.valid (unit_texts c.args.units.now)) c.in_ok-out.ensures.bytes
    ∙ output_is o c.args.valid _ judged same
