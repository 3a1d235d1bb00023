use Rattle.std.proofs.Common.{ap, ◌∙◌}
use Rattle.evaluation_context.specs.Ends.{text_end}
use Rattle.evaluation_context.proofs.ends.text_end.Goals as goal

pub returns : goal.returns
unfolding text_end
returns c = c.from_le_bytes.ensures ∙ ap text_end c.as_bytes-bytes.ensures.value
