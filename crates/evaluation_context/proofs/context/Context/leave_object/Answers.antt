use Rattle.std.proofs.Common.{◌-◌, length, refl, ap, ◌∙◌}
use Rattle.definitions.specs.Pointers.{Pointer}
use Rattle.evaluation_context.specs.Frames.{Frame, context_view, object_frame}
use Rattle.evaluation_context.specs.RunningViews.{path_ends, path_pointer}
use Rattle.evaluation_context.specs.Runnings.{last_end}
use Rattle.evaluation_context.proofs.FrameLaws.{object_left, same_frames, same_locations}
use Rattle.evaluation_context.proofs.RunningLaws.{ends_within}
use Rattle.evaluation_context.proofs.context.Context.leave_object.Goals as goal

pub returns-clause-left : goal.returns-clause-left
unfolding context_view object_frame
returns-clause-left c = λ older h.
    let old = c.args.self.now.running in
    let e = c.pop-2.ensures in
    let left = object_left (path_ends old) (path_ends c.pop-2.new.self) older.between older.beyond (length (path_pointer old)) e.ends (ends_within old)
    (ap (λ (f : Frame). f.between) h) (ap (λ (f : Frame). f.beyond) h) in
    same_frames
    (e.path ∙ ap (λ (f : Frame). f.path) h)
    (ap (λ (f : Frame). f.origin) h)
    (ap (λ (f : Frame). f.onward) h)
    (same_locations e.instance_location refl ∙ ap (λ (f : Frame). f.instance_location) h)
    (c.pop.ensures.popped older.scope older.origin.0 (ap (λ (f : Frame). f.scope) h))
    (e.running older.running _ (ap (λ (f : Frame). f.running) h))
    left.0
    (ap (λ (p : Pointer). length p - last_end 0 (path_ends c.pop-2.new.self)) e.path ∙ left.1)
