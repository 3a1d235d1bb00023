use Rattle.std.proofs.Common.{ap, sym, ◌∙◌}
use Rattle.definitions.specs.Texts.{text}
use Rattle.basic_output.specs.Sayings.{says_value}
use Rattle.basic_output.proofs.unit_text.message_buffer.MessageBuffer.written.Goals as goal

pub returns-in-Some : goal.returns-in-Some
returns-in-Some c = c.text.ensures _ c.in-Some.ensures ∙ ap (λ s. text (says_value s)) (sym c.in-Names.is)
