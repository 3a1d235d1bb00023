use Rattle.std.proofs.Common.{subst}
use Rattle.basic_output.specs.Pieces.{IsHead}
use Rattle.basic_output.specs.PointerViews.{origin_view, onward_pointer, pointer_view}
use Rattle.basic_output.specs.declared.origin.Origin.{Origin}
use Rattle.basic_output.proofs.UnitLaws.{unit_located}
use Rattle.evaluation_context.specs.Frames.{context_view, frame_standing}
use Rattle.evaluation_context.specs.RunningViews.{instance_pointer, path_pointer}
use Rattle.evaluation_context.proofs.context.Context.location.Goals as goal

pub returns : goal.returns
unfolding context_view frame_standing path_pointer instance_pointer
returns c = λ annotates says.
    let o = c.args.self.now in
    unit_located annotates (record { head = c.head.result; onward = c.onward_text.result; instance_location = c.text.result; path = c.text-2.result }) says (origin_view o.origin.value) (onward_pointer o.running.path o.onward) (pointer_view o.running.instance_location) (pointer_view o.running.path)
    (record {
      head = subst (λ (x : Origin). IsHead (origin_view x) c.head.result.now) c.deref.ensures c.head.ensures;
      onward = c.onward_text.ensures;
      instance_location = c.text.ensures;
      path = c.text-2.ensures;
    })
