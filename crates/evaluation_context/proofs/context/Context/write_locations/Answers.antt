use Rattle.std.proofs.Common.{refl, ap, ◌∙◌}
use Rattle.evaluation_context.specs.Frames.{context_view}
use Rattle.evaluation_context.specs.Runnings.{steps_between}
use Rattle.evaluation_context.proofs.FrameLaws.{same_beyond, same_frames, same_locations}
use Rattle.evaluation_context.proofs.context.Context.write_locations.Goals as goal

pub returns-clause-same : goal.returns-clause-same
unfolding context_view
returns-clause-same c =
    let e = c.write.ensures in
    same_frames e.path refl refl (same_locations e.instance_location refl) refl e.running (ap (steps_between 0) e.ends) (same_beyond e.path e.ends)
    ∙ c.write_origin.ensures.same
