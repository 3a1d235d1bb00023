use Rattle.std.proofs.Common.{◌-◌, arith, length, max, refl, ap, ◌∙◌}
use Rattle.std.proofs.lemmas.List.{length-take}
use Rattle.evaluation_context.specs.Frames.{Frame, context_view, keyword_frame}
use Rattle.evaluation_context.specs.RunningViews.{path_ends, path_pointer}
use Rattle.evaluation_context.specs.Runnings.{last_end, steps_between}
use Rattle.evaluation_context.proofs.FrameLaws.{same_beyond, same_frames, same_locations, step_popped}
use Rattle.evaluation_context.proofs.context.Context.leave_keyword.Goals as goal

pub invariant_of-self : goal.invariant_of-self
invariant_of-self c =
    let old = c.args.self.now.running in
    let path = path_pointer old in
    omega (arith, c.args.self.now.within, ap length c.step_back.ensures.path, length-take (max (length path - 1) (last_end 0 (path_ends old))) path)

pub returns-clause-left : goal.returns-clause-left
unfolding context_view keyword_frame
returns-clause-left c = λ older k h.
    let old = c.args.self.now.running in
    let e = c.step_back.ensures in
    let left = step_popped (path_pointer old) (path_pointer c.step_back.new.self) older.path k (last_end 0 (path_ends old)) older.beyond e.path (ap (λ (f : Frame). f.path) h) (ap (λ (f : Frame). f.beyond) h) in
    same_frames
    left.0
    (ap (λ (f : Frame). f.origin) h)
    (omega (arith, ap (λ (f : Frame). f.onward) h))
    (same_locations e.instance_location refl ∙ ap (λ (f : Frame). f.instance_location) h)
    (ap (λ (f : Frame). f.scope) h)
    (e.running ∙ ap (λ (f : Frame). f.running) h)
    (ap (steps_between 0) e.ends ∙ ap (λ (f : Frame). f.between) h)
    (same_beyond refl e.ends ∙ left.1)
