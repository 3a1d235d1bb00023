use Rattle.std.proofs.Common.{◌∷◌, ◌++◌, [], length, arith, refl, ap, ◌∙◌}
use Rattle.basic_output.specs.PointerViews.{origin_view}
use Rattle.basic_output.specs.declared.origin.Origin.{Origin}
use Rattle.evaluation_context.specs.Frames.{context_view, frame_standing, object_frame}
use Rattle.evaluation_context.specs.Runnings.{last_end, last_steps, steps_between}
use Rattle.evaluation_context.specs.RunningViews.{path_ends, path_pointer}
use Rattle.evaluation_context.proofs.FrameLaws.{same_frames, same_locations, same_objects}
use Rattle.evaluation_context.proofs.RunningLaws.{between_push, last_push}
use Rattle.evaluation_context.proofs.context.Context.enter_object.Goals as goal

pub returns-clause-entered : goal.returns-clause-entered
unfolding context_view frame_standing object_frame
returns-clause-entered c =
    let old = context_view c.args.self.now in
    let ends = path_ends c.args.self.now.running in
    let long = length (path_pointer c.args.self.now.running) in
    let e = c.in_ok-push-2.ensures in
    same_frames e.path refl refl (same_locations e.instance_location refl)
    (c.in_ok-push.ensures.pushed ∙ ap (λ uri. old.scope ++ uri ∷ []) c.resource-resource.ensures)
    (e.running ∙ same_objects (ap (λ (o : Origin). (origin_view o).0) c.in_ok-clone.ensures.cases) (ap (λ (o : Origin). (origin_view o).1 ++ last_steps old.onward old.path) c.in_ok-clone.ensures.cases) refl refl _)
    (ap (steps_between 0) e.ends ∙ between_push 0 ends long)
    (omega (arith, ap length e.path, ap (last_end 0) e.ends, last_push 0 ends long))

pub returns-clause-there : goal.returns-clause-there
unfolding frame_standing object_frame
returns-clause-there c = ap frame_standing (returns-clause-entered c)
