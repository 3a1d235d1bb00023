use Rattle.std.proofs.Common.{◌≡◌, ◌∙◌, ◌-◌, ◌≤◌, ◌||◌, Bool, true, false, drop, length, nat_eq, nat_le, ap, refl, subst, sym, arith}
use Rattle.std.proofs.lemmas.Bool.{eqb-true, leb-true}
use Rattle.std.proofs.lemmas.List.{length-map}
use Rattle.locations.specs.Steps.{token, tokens}
use Rattle.basic_output.specs.Buffers.{buffer_text}
use Rattle.basic_output.specs.Notations.{escaped_text}
use Rattle.basic_output.specs.PointerViews.{pointer_view}
use Rattle.basic_output.specs.StepTexts.{AreStepTexts}
use Rattle.basic_output.specs.declared.unit_text.step_texts.Notation.TheVariants as notation
use Rattle.basic_output.specs.declared.written_pointer.PointerTexts.{PointerTexts}
use Rattle.basic_output.proofs.FrontLaws.{plain_onward}
use Rattle.basic_output.proofs.written_pointer.WrittenPointer.onward_text.Goals as goal

pub returns-then-deref-inward : goal.returns-then-deref-inward
unfolding pointer_view
returns-then-deref-inward c =
    let p = c.args.self.now in
    let t = p.texts.value.pointer in
    let steps = p.steps.items in
    let inward : c.saturating_sub-inward.result ≡ length (tokens steps) - c.args.onward = omega (arith, c.saturating_sub-inward.ensures, c.len.ensures, p.steps.ok.0, length-map steps token) in
    let plain : t.plain_from ≤ c.saturating_sub-inward.result = omega (arith, c.if-deref-inward.true, ap (λ (t : PointerTexts). t.pointer.plain_from) c.deref.ensures) in
    c.behind.ensures notation.Pointer steps (subst (λ (t : PointerTexts). AreStepTexts notation.Pointer t.pointer steps) (sym c.deref-then-deref-inward.ensures) p.is_pointer) (ap (λ (t : PointerTexts). length t.pointer.starts.items) c.deref-then-deref-inward.ensures ∙ c.requires.whole)
    ∙ plain_onward (buffer_text t.buffer.text) t.starts.items t.plain_from steps c.saturating_sub-inward.result p.is_pointer c.requires.whole plain ∙ ap (λ k. escaped_text notation.Fragment (drop k (tokens steps))) inward

other : (a b : Bool) → a || b ≡ true → (a ≡ true → ⊥) → b ≡ true
other true b e never = absurd (never refl)
other false b e never = e

pub returns-else-deref-inward : goal.returns-else-deref-inward
unfolding pointer_view
returns-else-deref-inward c =
    let p = c.args.self.now in
    let t = p.texts.value in
    let steps = p.steps.items in
    let inward : c.saturating_sub-inward.result ≡ length (tokens steps) - c.args.onward = omega (arith, c.saturating_sub-inward.ensures, c.len.ensures, p.steps.ok.0, length-map steps token) in
    let all : length t.fragment.starts.items ≡ length steps = eqb-true (length t.fragment.starts.items) (length steps) (other (nat_le t.pointer.plain_from (length steps - c.args.onward)) _ c.requires.behind (λ plain. absurd (omega (arith, c.if-deref-inward.false, ap (λ (t : PointerTexts). t.pointer.plain_from) c.deref.ensures, leb-true t.pointer.plain_from (length steps - c.args.onward) plain, inward, length-map steps token)))) in
    c.behind-else-deref-inward.ensures notation.Fragment steps (subst (λ (t : PointerTexts). AreStepTexts notation.Fragment t.fragment steps) (sym c.deref-else-deref-inward.ensures) p.is_fragment) (ap (λ (t : PointerTexts). length t.fragment.starts.items) c.deref-else-deref-inward.ensures ∙ all)
    ∙ ap (λ k. escaped_text notation.Fragment (drop k (tokens steps))) inward
