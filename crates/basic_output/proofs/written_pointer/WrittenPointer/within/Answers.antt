use Rattle.std.proofs.Common.{subst, sym}
use Rattle.basic_output.specs.StepTexts.{AreStepTexts}
use Rattle.basic_output.specs.declared.unit_text.step_texts.Notation.TheVariants as notation
use Rattle.basic_output.specs.declared.written_pointer.PointerTexts.{PointerTexts}
use Rattle.basic_output.proofs.written_pointer.WrittenPointer.within.Goals as goal

pub invariant_of-result : goal.invariant_of-result
invariant_of-result c = record {
  is_pointer = subst (λ (t : PointerTexts). AreStepTexts notation.Pointer t.pointer c.new-2.result.items) (sym c.deref_mut-2.ensures.value) (c.clear.ensures notation.Pointer c.new-2.result.items);
  is_fragment = c.clear-2.ensures notation.Fragment c.new-2.result.items;
}
