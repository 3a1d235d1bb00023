use Rattle.std.proofs.Common.{◌-◌, length}
use Rattle.basic_output.specs.StepTexts.{AreStepTexts}
use Rattle.basic_output.proofs.unit_text.step_texts.StepTexts.write.Given as goal

abbrev pub invariant-loop-notation : goal.invariant-loop-notation
invariant-loop-notation l = AreStepTexts l.notation l.self l.steps

abbrev pub decreases-loop-notation : goal.decreases-loop-notation
decreases-loop-notation l = length l.steps - length l.self.starts.items
