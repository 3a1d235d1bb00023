use Rattle.std.proofs.Common.{◌++◌, ap, ap₂, ◌∙◌}
use Rattle.std.proofs.lemmas.List.{map-append}
use Rattle.basic_output.specs.PointerViews.{origin_view}
use Rattle.basic_output.specs.declared.origin.Origin.{Origin}
use Rattle.locations.specs.Steps.{token, tokens}
use Rattle.evaluation_context.specs.Frames.{context_view, frame_standing}
use Rattle.evaluation_context.proofs.context.Context.pointer.Goals as goal

pub returns : goal.returns
unfolding context_view frame_standing
returns c =
    let first = c.in_ok-pointer.pointer.items in
    let second = c.last_steps.result.now in
    ap tokens c.in_ok-extend_from_slice.ensures.items ∙ map-append token first second
    ∙ ap₂ (λ a b. a ++ b) (ap tokens c.in_ok-pointer.ensures.items ∙ c.steps.ensures ∙ ap (λ (o : Origin). (origin_view o).1) c.deref.ensures) c.last_steps.ensures
