use Rattle.std.proofs.Common.{arith, refl, sym, ap, ◌∙◌}
use Rattle.applicators.specs.Plans.{step_view}
use Rattle.evaluation_context.specs.Frames.{context_view}
use Rattle.evaluation_context.specs.Moves.{frame_below}
use Rattle.evaluation_context.specs.Runnings.{steps_between}
use Rattle.evaluation_context.specs.RunningViews.{path_ends, path_pointer}
use Rattle.evaluation_context.proofs.FrameLaws.{beyond_further, path_fits, same_frames, same_locations, stepped_nowhere}
use Rattle.evaluation_context.proofs.RunningLaws.{ends_within}
use Rattle.evaluation_context.proofs.context.Context.enter_step.Goals as goal

pub overflow_add-self : goal.overflow_add-self
overflow_add-self c = omega (arith, c.args.self.now.within, path_fits c.args.self.now.running)

pub returns-in_ok-lengthen-in-Some-clause-moved : goal.returns-in_ok-lengthen-in-Some-clause-moved
unfolding context_view frame_below
returns-in_ok-lengthen-in-Some-clause-moved c =
    let old = c.args.self.now in
    let e = c.in_ok-lengthen-in-Some.ensures in
    same_frames e.path refl refl (same_locations e.instance_location refl) refl e.running
    (ap (steps_between 0) e.ends)
    (beyond_further (path_pointer old.running) _ _ (path_ends old.running) _ e.path e.ends (ends_within old.running))
    ∙ ap (λ o. frame_below (step_view o) (context_view old)) (sym c.in-Some.is)

pub returns-in-None-clause-moved : goal.returns-in-None-clause-moved
unfolding context_view
returns-in-None-clause-moved c =
    let old = c.args.self.now in
    stepped_nowhere (context_view old) ∙ ap (λ o. frame_below (step_view o) (context_view old)) (sym c.in-None.is)
