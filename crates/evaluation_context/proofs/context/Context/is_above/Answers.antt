use Rattle.std.proofs.Common.{refl, length, decimal}
use Rattle.json_doc.specs.NamedMembers.{name_text}
use Rattle.evaluation_context.specs.Frames.{context_view, frame_standing}
use Rattle.evaluation_context.specs.RunningViews.{instance_pointer, running_objects}
use Rattle.evaluation_context.proofs.LowerLaws.{none_lower}
use Rattle.evaluation_context.proofs.RunningLaws.{none_below}
use Rattle.evaluation_context.proofs.context.Context.is_above.Goals as goal

pub returns-in-Member : goal.returns-in-Member
unfolding context_view frame_standing
returns-in-Member c = λ identity e.
    let o = c.args.self.now.running in
    let st = frame_standing (context_view c.args.self.now) in
    rw c.in-Member.is (none_lower identity st.instance_location (name_text c.in-Member.field-0) (running_objects o) (none_below o (length (instance_pointer o)) refl))

pub returns-in-Element : goal.returns-in-Element
unfolding context_view frame_standing
returns-in-Element c = λ identity e.
    let o = c.args.self.now.running in
    let st = frame_standing (context_view c.args.self.now) in
    rw c.in-Element.is (none_lower identity st.instance_location (decimal c.in-Element.field-0) (running_objects o) (none_below o (length (instance_pointer o)) refl))
