use Rattle.std.proofs.Common.{◌≡◌, ◌&&◌, false, sym, ap, ◌∙◌, arith}
use Rattle.std.proofs.lemmas.Bool.{and_left}
use Rattle.std.proofs.lemmas.List.{length-map}
use Rattle.definitions.specs.Pointers.{same_pointer}
use Rattle.locations.specs.Steps.{token, tokens}
use Rattle.evaluation_context.proofs.RunningLaws.{shorter_differs, split_same}
use Rattle.evaluation_context.proofs.running_objects.are_both.Goals as goal

pub returns-then-steps-seam : goal.returns-then-steps-seam
returns-then-steps-seam c =
    let steps = c.args.steps.now in
    let first = c.args.first.now in
    shorter_differs (tokens steps) (tokens first) (tokens c.args.second.now) (omega (arith, length-map steps token, length-map first token))

pub returns-then-same_steps : goal.returns-then-same_steps
returns-then-same_steps c =
    let front = tokens c.split_at.result.0.now in
    c.same_steps-then-same_steps.ensures ∙ ap (λ b. b && same_pointer front (tokens c.args.first.now)) (sym c.if-same_steps.true ∙ c.same_steps.ensures)
    ∙ split_same c.args.steps.now c.args.first.now c.args.second.now c.split_at.result.0.now c.split_at.result.1.now c.split_at.ensures.front c.split_at.ensures.back (omega arith)

pub returns-else-same_steps : goal.returns-else-same_steps
returns-else-same_steps c =
    let front = tokens c.split_at.result.0.now in
    let differs : same_pointer (tokens c.split_at.result.1.now) (tokens c.args.second.now) ≡ false = sym c.same_steps.ensures ∙ c.if-same_steps.false in
    c.if-same_steps.false ∙ sym (and_left _ (same_pointer front (tokens c.args.first.now)) differs)
    ∙ split_same c.args.steps.now c.args.first.now c.args.second.now c.split_at.result.0.now c.split_at.result.1.now c.split_at.ensures.front c.split_at.ensures.back (omega arith)
