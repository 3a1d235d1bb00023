use Rattle.std.proofs.Common.{◌≡◌, ◌&&◌, ◌++◌, false, sym, ap, ◌∙◌}
use Rattle.std.proofs.lemmas.Bool.{and_left}
use Rattle.definitions.specs.Pointers.{same_pointer}
use Rattle.locations.specs.Steps.{tokens}
use Rattle.evaluation_context.proofs.RunningLaws.{joined_steps}
use Rattle.evaluation_context.proofs.running_objects.are_joined_within.Goals as goal

pub returns-then-are_both : goal.returns-then-are_both
returns-then-are_both c =
    let first = c.args.first.now in
    let front = c.split_at.result.0.now in
    c.same_steps.ensures ∙ ap (λ b. b && same_pointer (tokens first) (tokens front)) (sym c.if-are_both.true ∙ c.are_both.ensures)
    ∙ joined_steps first c.args.second.now c.args.other_first.now c.args.other_second.now front c.split_at.result.1.now c.split_at.ensures.front c.split_at.ensures.back c.requires

pub returns-else-are_both : goal.returns-else-are_both
returns-else-are_both c =
    let first = c.args.first.now in
    let front = c.split_at.result.0.now in
    let differs : same_pointer (tokens c.args.second.now) (tokens c.split_at.result.1.now ++ tokens c.args.other_second.now) ≡ false = sym c.are_both.ensures ∙ c.if-are_both.false in
    c.if-are_both.false ∙ sym (and_left _ (same_pointer (tokens first) (tokens front)) differs)
    ∙ joined_steps first c.args.second.now c.args.other_first.now c.args.other_second.now front c.split_at.result.1.now c.split_at.ensures.front c.split_at.ensures.back c.requires
