use Rattle.evaluation_context.specs.Frames.{context_view, frame_standing}
use Rattle.evaluation_context.proofs.context.Context.scope.Goals as goal

pub returns : goal.returns
unfolding context_view frame_standing
returns c = c.uris.ensures
