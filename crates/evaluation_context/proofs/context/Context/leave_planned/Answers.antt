use Rattle.std.proofs.Common.{◌≡◌, length, max, take, arith, refl, sym, ap, ◌∙◌}
use Rattle.std.proofs.lemmas.List.{length-take}
use Rattle.basic_output.specs.PointerViews.{origin_view}
use Rattle.evaluation_context.specs.Frames.{context_view}
use Rattle.evaluation_context.specs.Returns.{origin_before}
use Rattle.evaluation_context.specs.RunningViews.{path_ends, path_pointer}
use Rattle.evaluation_context.specs.Runnings.{last_end, steps_between}
use Rattle.evaluation_context.proofs.FrameLaws.{same_frames, same_locations}
use Rattle.evaluation_context.proofs.RunningLaws.{ends_within}
use Rattle.evaluation_context.proofs.context.Context.leave_planned.Goals.{in-Some, in_default}
use Rattle.evaluation_context.proofs.context.Context.leave_planned.Goals as goal

pub returns-clause-left : goal.returns-clause-left
unfolding context_view
returns-clause-left c = λ older h.
    let here = origin_view c.args.self.now.origin.value in
    let old = c.args.self.now.running in
    let e = c.cut.ensures in
    let path = path_pointer old in
    let end = last_end 0 (path_ends old) in
    let long : max c.args.back.path end ≡ c.args.back.path = omega (arith, h.within, ends_within old) in
    let same : path_pointer c.cut.new.self ≡ take c.args.back.path path = e.path ∙ ap (λ n. take n path) long in
    same_frames
    same
    (elim c.match-origin.branch [ in-Some w ↦ rw w.self-is (sym (ap (λ left. origin_before left here) w.in-Some.is)) | in_default w ↦ rw w.self-is (sym (ap (λ left. origin_before left here) w.in_default.is)) ])
    (omega (arith, ap length same, ap length c.path.ensures))
    (same_locations (e.instance_location h.above) refl)
    refl
    e.running
    (ap (steps_between 0) e.ends)
    (omega (arith, ap length same, length-take c.args.back.path path, ap (last_end 0) e.ends, h.within, ends_within old))
    ∙ sym h.cut
