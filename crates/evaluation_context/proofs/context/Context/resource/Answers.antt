use Rattle.std.proofs.Common.{ap, ◌∙◌}
use Rattle.basic_output.specs.PointerViews.{origin_view}
use Rattle.basic_output.specs.declared.origin.Origin.{Origin}
use Rattle.evaluation_context.specs.Frames.{context_view, frame_standing}
use Rattle.evaluation_context.proofs.context.Context.resource.Goals as goal

pub returns : goal.returns
unfolding context_view frame_standing
returns c = c.resource.ensures ∙ ap (λ (o : Origin). (origin_view o).0) c.deref.ensures
