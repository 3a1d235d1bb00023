use Rattle.std.proofs.Common.{refl, ap, ◌∙◌}
use Rattle.basic_output.specs.PointerViews.{origin_view}
use Rattle.evaluation_context.specs.Frames.{context_view}
use Rattle.evaluation_context.proofs.FrameLaws.{same_frames}
use Rattle.evaluation_context.proofs.context.Context.write_origin.Goals as goal

pub returns-in_ok-self-clause-same : goal.returns-in_ok-self-clause-same
unfolding context_view
returns-in_ok-self-clause-same c = same_frames refl (c.in_ok-self.ensures.same ∙ ap origin_view c.deref-then-not-has_head.ensures) refl refl refl refl refl refl
