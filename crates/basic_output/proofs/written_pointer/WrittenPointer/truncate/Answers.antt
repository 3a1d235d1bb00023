use Rattle.std.proofs.Common.{◌≤◌, length, subst, sym, ap, ◌∙◌, arith}
use Rattle.std.proofs.lemmas.List.{take-map}
use Rattle.locations.specs.Steps.{token, tokens}
use Rattle.basic_output.specs.PointerViews.{pointer_view}
use Rattle.basic_output.specs.StepTexts.{AreStepTexts}
use Rattle.basic_output.specs.declared.unit_text.step_texts.Notation.TheVariants as notation
use Rattle.basic_output.specs.declared.written_pointer.PointerTexts.{PointerTexts}
use Rattle.basic_output.proofs.FrontLaws.{cut_texts}
use Rattle.basic_output.proofs.written_pointer.WrittenPointer.truncate.Goals as goal

pub invariant_of-self : goal.invariant_of-self
invariant_of-self c =
    let old = c.args.self.now in
    let steps = old.steps.items in
    let left = c.truncate-then-len-2.new.self.items in
    let j = c.args.len in
    let is = c.truncate-then-len-2.ensures.items in
    let within : j ≤ length steps = omega (arith, c.if-len.true, c.len.ensures, old.steps.ok.0) in
    let again = sym c.deref_mut-then-len.ensures.value in
    let pointer = subst (λ (t : PointerTexts). AreStepTexts notation.Pointer t.pointer steps) (sym c.deref_mut.ensures.value) old.is_pointer in
    let fragment = subst (λ (t : PointerTexts). AreStepTexts notation.Fragment t.fragment steps) (sym c.deref_mut.ensures.value) old.is_fragment in
    record {
      is_pointer = subst (λ (t : PointerTexts). AreStepTexts notation.Pointer t.pointer left) again (cut_texts left j is within c.truncate.ensures.fewer (c.truncate.ensures.texts notation.Pointer steps pointer));
      is_fragment = cut_texts left j is within c.truncate-then-len.ensures.fewer (c.truncate-then-len.ensures.texts notation.Fragment steps (subst (λ (t : PointerTexts). AreStepTexts notation.Fragment t.fragment steps) again fragment));
    }

pub returns-then-len : goal.returns-then-len
unfolding pointer_view
returns-then-len c = ap tokens c.truncate-then-len-2.ensures.items ∙ sym (take-map token c.args.len c.args.self.now.steps.items)
