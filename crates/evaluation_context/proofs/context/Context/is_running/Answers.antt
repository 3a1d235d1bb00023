use Rattle.std.proofs.Common.{◌++◌, ap, ◌∙◌}
use Rattle.std.specs.List.{list_any}
use Rattle.basic_output.specs.PointerViews.{origin_view}
use Rattle.basic_output.specs.declared.origin.Origin.{Origin}
use Rattle.evaluation_context.specs.Runnings.{is_running_as, last_steps}
use Rattle.evaluation_context.specs.RunningViews.{path_pointer}
use Rattle.evaluation_context.specs.Frames.{context_view, frame_standing}
use Rattle.evaluation_context.proofs.FrameLaws.{running_is, same_identities}
use Rattle.evaluation_context.proofs.context.Context.is_running.Goals as goal

pub returns : goal.returns
unfolding context_view frame_standing
returns c = λ s x object.
    let o = c.args.self.now in
    let st = frame_standing (context_view o) in
    c.contains.ensures
    ∙ ap (λ i. list_any (is_running_as i st.instance_location) st.running)
    (same_identities (ap (λ (x : Origin). (origin_view x).0) c.deref.ensures) (ap (λ (x : Origin). (origin_view x).1 ++ last_steps o.onward (path_pointer o.running)) c.deref.ensures))
    ∙ running_is s x st object
