use Rattle.basic_output.proofs.BufferLaws.{whole_start}
use Rattle.basic_output.proofs.unit_text.step_texts.StepTexts.clear.Goals as goal

pub truncate-requires : goal.truncate-requires
truncate-requires c _ = whole_start c.args.self.now.buffer.text
